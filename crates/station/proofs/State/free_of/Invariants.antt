-- What the places so far hold of the resource; no more than two bytes say, so many times.
use Rattle.std.proofs.Common.{◌≡◌, ◌*◌, ◌^◌, ◌≤◌}
use Rattle.rules.specs.State.{held_in}
use Rattle.station.proofs.View.{stack_up}
use Rattle.station.proofs.State.free_of.Given as goal

abbrev pub invariant-loop-started : goal.invariant-loop-started
invariant-loop-started l = record {
  small : l.held ≤ 2 ^ 16 * l.started-index;
  sum : l.held ≡ held_in (stack_up l.self.table.resource_count l.started-index l.started-items) l.resource;
}
