-- The lemmas of Largest at this loop.
use Rattle.std.proofs.Common.{◌≡◌, length, get_or, arith, refl, sym, ap, ◌∙◌}
use Rattle.rules.specs.Table.{resource_count}
use Rattle.rules.specs.State.{running_level}
use Rattle.table.specs.Arrays.{absent_job, table_of}
use Rattle.station.specs.Arrays.{state_of}
use Rattle.station.proofs.Largest.{needs_more, levels_needing, none_passed, higher, no_higher, taken, uncounted, no_larger, system_all}
use Rattle.station.proofs.State.ceiling_now.Goals as goal
use Rattle.station.proofs.State.ceiling_now.Goals.{then-gt+then-needs_more, else-gt, else-gt-via-then-gt+else-needs_more, else-gt-via-else-gt}

pub loop-job-init : goal.loop-job-init
loop-job-init c =
    let low = running_level (table_of c.args.self.now.table) (state_of c.args.self.now).stack in
    c.running_level-largest.ensures ∙ none_passed low (levels_needing c.free-free.result (length c.listed_units-resources.result.now) c.listed_jobs-job-items.result.now)

pub loop-job-preserved : goal.loop-job-preserved
loop-job-preserved c =
    let js = c.listed_jobs-job-items.result.now in
    let i = c.loop-job.job-index in
    let job = get_or js i absent_job in
    let low = running_level (table_of c.args.self.now.table) (state_of c.args.self.now).stack in
    let free = c.free-free.result in
    let n = length c.listed_units-resources.result.now in
    let test = needs_more free n job in
    let levels = levels_needing free n js in
    elim c.if-gt.branch [
      | then-gt+then-needs_more w ↦
          rw w.largest-is
          (taken i low c.loop-job.largest.0 job.level.0 test levels c.loop-job.invariant refl (higher job.level.0 c.loop-job.largest.0 c.gt.result c.gt.ensures w.if-gt.true) (sym w.needs_more.ensures ∙ w.if-needs_more.true))
      | else-gt w ↦
          rw w.largest-is
          (elim w.else-gt.branch [
            | else-gt-via-then-gt+else-needs_more v ↦
                uncounted i low c.loop-job.largest.0 job.level.0 test levels c.loop-job.invariant refl (sym v.needs_more.ensures ∙ v.if-needs_more.false)
            | else-gt-via-else-gt v ↦ no_larger i low c.loop-job.largest.0 job.level.0 test levels c.loop-job.invariant refl (no_higher job.level.0 c.loop-job.largest.0 c.gt.result c.gt.ensures v.if-gt.false)
          ])
    ]

pub returns : goal.returns
returns c =
    let s = c.args.self.now in
    let js = c.listed_jobs-job-items.result.now in
    let free = c.free-free.result in
    let all : c.loop-job.job-index ≡ length js = omega arith in
    let counted : length c.listed_units-resources.result.now ≡ resource_count (table_of s.table) = ap length c.listed_units-resources.ensures in
    system_all s.table (state_of s).stack free (λ r l. c.free-free.ensures r l) c.loop-job.job-index c.loop-job.largest.0 js c.listed_jobs-job-items.ensures all
    (rw counted at c.loop-job.invariant)
