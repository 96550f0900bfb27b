-- The waiting jobs one by one: each stays before the one that comes in, up to the first that it is sooner than.
use Rattle.std.proofs.Common.{arith, sym, ◌∙◌}
use Rattle.table.specs.Arrays.{table_of}
use Rattle.station.specs.Arrays.{entry_of}
use Rattle.station.proofs.Entering.{sooner_test, passed, found, passed_all}
use Rattle.station.proofs.State.place_of.Goals as goal

pub loop-other-preserved : goal.loop-other-preserved
loop-other-preserved c =
    let t = table_of c.args.self.now.table in
    let js = c.waiting_jobs-other-items.result.now in
    let test = sooner_test t c.args.job js c.loop-other.at c.loop-other.other-index c.level_of.result.0 c.level_of-level.result.0 c.loop-other.invariant.counted c.level_of.ensures c.level_of-level.ensures in
    record {
      counted = omega arith;
      before = passed t (entry_of c.args.job) js c.loop-other.at _ (omega arith) (sym test ∙ sym c.lt.ensures ∙ c.if-lt.false) c.loop-other.invariant.before;
    }

pub returns-after-loop-other-clause-place : goal.returns-after-loop-other-clause-place
returns-after-loop-other-clause-place c =
    let t = table_of c.args.self.now.table in
    rw (← c.waiting_jobs-other-items.ensures)
    (passed_all t (entry_of c.args.job) c.waiting_jobs-other-items.result.now c.loop-other.at _ (omega arith) c.loop-other.invariant.before)

pub returns-then-lt-clause-place : goal.returns-then-lt-clause-place
returns-then-lt-clause-place c =
    let t = table_of c.args.self.now.table in
    let js = c.waiting_jobs-other-items.result.now in
    let test = sooner_test t c.args.job js c.loop-other.at c.loop-other.other-index c.level_of.result.0 c.level_of-level.result.0 c.loop-other.invariant.counted c.level_of.ensures c.level_of-level.ensures in
    rw (← c.waiting_jobs-other-items.ensures)
    (found t (entry_of c.args.job) js c.loop-other.at _ (omega arith) (sym test ∙ sym c.lt.ensures ∙ c.if-lt.true) c.loop-other.invariant.before)
