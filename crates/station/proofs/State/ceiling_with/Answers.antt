-- The lemmas of Largest at this loop.
use Rattle.std.proofs.Common.{arith, ◌≡◌, ltb, true, false, get_or, refl, length}
use Rattle.std.proofs.lemmas.Bool.{lt-ltb, le-ltb}
use Rattle.table.specs.Arrays.{absent_job}
use Rattle.station.proofs.Largest.{levels_above, none_passed, higher, no_higher, taken, uncounted, no_larger, ceiling_all}
use Rattle.station.proofs.State.ceiling_with.Goals as goal
use Rattle.station.proofs.State.ceiling_with.Goals.{then-gt+then-from-free, else-gt, else-gt-via-then-gt+else-from-free, else-gt-via-else-gt}

pub loop-job-init : goal.loop-job-init
loop-job-init c = none_passed 0 (levels_above c.args.resource c.args.free c.listed_jobs-job-items.result.now)

pub loop-job-preserved : goal.loop-job-preserved
loop-job-preserved c =
    let js = c.listed_jobs-job-items.result.now in
    let i = c.loop-job.job-index in
    let job = get_or js i absent_job in
    let test = ltb c.args.free (get_or job.needs c.args.resource 0) in
    let levels = levels_above c.args.resource c.args.free js in
    elim c.if-gt.branch [
      | then-gt+then-from-free w ↦
          let above : test ≡ true = lt-ltb c.args.free (get_or job.needs c.args.resource 0) (omega arith) in
          rw w.largest-is (taken i 0 c.loop-job.largest.0 job.level.0 test levels c.loop-job.invariant refl (higher job.level.0 c.loop-job.largest.0 c.gt.result c.gt.ensures w.if-gt.true) above)
      | else-gt w ↦
          rw w.largest-is
          (elim w.else-gt.branch [
            | else-gt-via-then-gt+else-from-free v ↦
                let below : test ≡ false = le-ltb c.args.free (get_or job.needs c.args.resource 0) (omega arith) in
                uncounted i 0 c.loop-job.largest.0 job.level.0 test levels c.loop-job.invariant refl below
            | else-gt-via-else-gt v ↦ no_larger i 0 c.loop-job.largest.0 job.level.0 test levels c.loop-job.invariant refl (no_higher job.level.0 c.loop-job.largest.0 c.gt.result c.gt.ensures v.if-gt.false)
          ])
    ]

pub returns : goal.returns
returns c =
    let t = c.args.self.now.table in
    let all : c.loop-job.job-index ≡ length c.listed_jobs-job-items.result.now = omega arith in
    ceiling_all t c.args.resource c.args.free c.loop-job.job-index c.loop-job.largest.0 c.listed_jobs-job-items.result.now c.requires c.listed_jobs-job-items.ensures all c.loop-job.invariant
