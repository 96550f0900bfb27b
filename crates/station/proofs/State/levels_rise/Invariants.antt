-- Whether the levels that are left rise from the last one on decides.
use Rattle.std.specs.Prelude.{◌≡◌, drop}
use Rattle.rules.specs.WellFormed.{levels_rise}
use Rattle.table.specs.Arrays.{table_of}
use Rattle.station.specs.Arrays.{state_of}
use Rattle.station.proofs.Formed.{rises_from}
use Rattle.station.proofs.State.levels_rise.Given as goal

abbrev pub invariant-loop-started : goal.invariant-loop-started
invariant-loop-started l =
    rises_from (table_of l.self.table) l.below.0 (drop l.started-index l.started-items) ≡ levels_rise (table_of l.self.table) (state_of l.self).stack
