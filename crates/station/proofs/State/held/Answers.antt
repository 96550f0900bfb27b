-- The lemmas of Units at this loop.
use Rattle.std.proofs.Common.{◌≡◌, ◌<◌, length, take, arith, rules, refl, length-take}
use Rattle.rules.specs.Limits.{max_jobs, max_resources}
use Rattle.rules.proofs.Counts.{zeros_at}
use Rattle.station.proofs.View.{absent}
use Rattle.station.proofs.Units.{listed_resource, nothing_held, held_more}
use Rattle.station.proofs.State.held.Goals as goal

pub loop-started-init : goal.loop-started-init
loop-started-init c = record {
  all = refl;
  small = λ r. omega (arith, zeros_at max_resources r);
  sums = λ r l. nothing_held max_resources r;
}

pub add-requires : goal.add-requires
add-requires c = λ r.
    let s = c.args.self.now in
    let n : length s.stack ≡ max_jobs = search rules in
    let e : length c.started-started-items.result.now ≡ length (take s.depth s.stack) = cc in
    omega (arith, c.loop-started.invariant.small r, length-take s.depth s.stack)

pub loop-started-preserved : goal.loop-started-preserved
loop-started-preserved c = record {
  all = omega arith;
  small = λ r. omega (arith, c.loop-started.invariant.small r, c.add.ensures.small r);
  sums = λ r l.
      let m = c.args.self.now.table.resource_count in
      let below : r < m = listed_resource m r c.args.self.now.table.units l in
      omega (arith, c.add.ensures.sum r, c.loop-started.invariant.sums r l, held_more m c.loop-started.started-index r c.started-started-items.result.now absent c.loop-started-test.true below);
}
