-- A started job is a listed one, and its test goes before those of the jobs that are left.
use Rattle.table.specs.Arrays.{absent_job}
use Rattle.station.proofs.Formed.{few_started, listed_started, in_need, all_in_need, in_need_more, in_need_ends, none_left}
use Rattle.station.proofs.State.within_needs.Goals as goal

pub loop-started-init : goal.loop-started-init
loop-started-init c = rw (← c.started-started-items.ensures) (all_in_need c.args.self.now.table c.started-started-items.result.now)

pub bounds-self-from : goal.bounds-self-from
bounds-self-from c = rw c.from.ensures (few_started c.args.self.now c.requires.fits c.requires.listed _ c.started-started-items.ensures _ _ c.loop-started-test.true)

pub loop-started-preserved : goal.loop-started-preserved
loop-started-preserved c =
    let s = c.args.self.now in
    let xs = c.started-started-items in
    in_need_more s.table xs.result.now c.loop-started.started-index _ absent_job c.within_need.result c.loop-started-test.true
    (listed_started s c.requires.listed xs.result.now xs.ensures _ _ c.loop-started-test.true)
    (rw (c.from-resources.ensures, c.from.ensures) at c.within_need.ensures) _ c.loop-started.invariant c.if-not-within_need.false

pub returns-then-not-within_need : goal.returns-then-not-within_need
returns-then-not-within_need c =
    let s = c.args.self.now in
    let xs = c.started-started-items in
    in_need_ends s.table xs.result.now c.loop-started.started-index _ absent_job c.within_need.result c.loop-started-test.true
    (listed_started s c.requires.listed xs.result.now xs.ensures _ _ c.loop-started-test.true)
    (rw (c.from-resources.ensures, c.from.ensures) at c.within_need.ensures) _ c.loop-started.invariant c.if-not-within_need.true

pub returns : goal.returns
returns c =
    none_left (in_need c.args.self.now.table) c.started-started-items.result.now c.loop-started.started-index _ c.loop-started-test.false c.loop-started.invariant
