-- The waiting jobs so far stay before the one that comes in.
use Rattle.std.specs.Prelude.{◌≡◌, ◌++◌, map, take, drop}
use Rattle.rules.specs.Waiting.{insert}
use Rattle.table.specs.Arrays.{table_of}
use Rattle.station.specs.Arrays.{entry_of}
use Rattle.station.proofs.State.place_of.Given as goal

abbrev pub invariant-loop-other : goal.invariant-loop-other
invariant-loop-other l = record {
  counted : l.at ≡ l.other-index;
  before :
      take l.at (map entry_of l.other-items) ++ insert (table_of l.self.table) (entry_of l.fn.job) (drop l.at (map entry_of l.other-items))
      ≡ insert (table_of l.self.table) (entry_of l.fn.job) (map entry_of l.other-items);
}
