-- The largest level so far, from the running job's on.
use Rattle.std.proofs.Common.{◌≡◌, max}
use Rattle.rules.specs.Counting.{max_below}
use Rattle.rules.specs.State.{running_level}
use Rattle.table.specs.Arrays.{table_of}
use Rattle.station.specs.Arrays.{state_of}
use Rattle.station.proofs.Largest.{levels_needing}
use Rattle.station.proofs.State.ceiling_now.Given as goal

abbrev pub invariant-loop-job : goal.invariant-loop-job
invariant-loop-job l =
    l.largest.0 ≡ max (max_below l.job-index (levels_needing l.free l.resources l.job-items)) (running_level (table_of l.self.table) (state_of l.self).stack)
