-- The bytes that the places so far take; no more than two bytes say, so many times.
use Rattle.std.proofs.Common.{◌≡◌, ◌*◌, ◌^◌, ◌≤◌}
use Rattle.rules.specs.Memory.{frame_start}
use Rattle.table.specs.Arrays.{table_of}
use Rattle.station.proofs.View.{stack_up}
use Rattle.station.proofs.State.frames.Given as goal

abbrev pub invariant-loop-started : goal.invariant-loop-started
invariant-loop-started l = record {
  small : l.start ≤ 2 ^ 16 * l.started-index;
  sum : l.start ≡ frame_start (table_of l.self.table) (stack_up l.self.table.resource_count l.started-index l.started-items);
}
