-- The largest level so far.
use Rattle.std.proofs.Common.{◌≡◌, max}
use Rattle.rules.specs.Counting.{max_below}
use Rattle.station.proofs.Largest.{levels_above}
use Rattle.station.proofs.State.ceiling_with.Given as goal

abbrev pub invariant-loop-job : goal.invariant-loop-job
invariant-loop-job l = l.largest.0 ≡ max (max_below l.job-index (levels_above l.resource l.free l.job-items)) 0
