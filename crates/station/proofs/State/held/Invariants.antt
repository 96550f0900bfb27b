-- What the places so far hold of each resource; no more than two bytes say, so many times.
use Rattle.std.proofs.Common.{◌≡◌, ℕ, ◌*◌, ◌^◌, ◌<◌, ◌≤◌, length, get_or}
use Rattle.rules.specs.Limits.{max_resources}
use Rattle.rules.specs.State.{held_in}
use Rattle.rules.specs.Table.{resource_count}
use Rattle.table.specs.Arrays.{table_of}
use Rattle.station.proofs.View.{stack_up}
use Rattle.station.proofs.State.held.Given as goal

abbrev pub invariant-loop-started : goal.invariant-loop-started
invariant-loop-started l = record {
  all : length l.held ≡ max_resources;
  small : (r : ℕ) → get_or l.held r 0 ≤ 2 ^ 16 * l.started-index;
  sums : (r : ℕ) → r < resource_count (table_of l.self.table) → get_or l.held r 0 ≡ held_in (stack_up l.self.table.resource_count l.started-index l.started-items) r;
}
