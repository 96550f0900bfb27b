-- Whether the jobs that are left hold no more than their needs decides.
use Rattle.std.specs.Prelude.{◌≡◌, drop}
use Rattle.rules.specs.Counting.{every}
use Rattle.rules.specs.WellFormed.{within_needs}
use Rattle.table.specs.Arrays.{table_of}
use Rattle.station.specs.Arrays.{state_of}
use Rattle.station.proofs.Formed.{in_need}
use Rattle.station.proofs.State.within_needs.Given as goal

abbrev pub invariant-loop-started : goal.invariant-loop-started
invariant-loop-started l = every (in_need l.self.table) (drop l.started-index l.started-items) ≡ within_needs (table_of l.self.table) (state_of l.self).stack
