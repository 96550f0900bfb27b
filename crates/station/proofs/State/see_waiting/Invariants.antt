-- The started jobs and the waiting ones so far are marked, and each is there once.
use Rattle.rules.specs.State.{started_jobs}
use Rattle.station.specs.Arrays.{state_of}
use Rattle.station.proofs.Once.{Seen}
use Rattle.station.proofs.State.see_waiting.Given as goal

abbrev pub invariant-loop-job : goal.invariant-loop-job
invariant-loop-job l = Seen (λ j. j.0) l.job-items (started_jobs (state_of l.self).stack) l.job-index l.seen
