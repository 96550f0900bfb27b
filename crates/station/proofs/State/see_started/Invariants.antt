-- The jobs so far are marked, and each is there once.
use Rattle.std.specs.Prelude.{[]}
use Rattle.station.proofs.Once.{Seen}
use Rattle.station.proofs.State.see_started.Given as goal

abbrev pub invariant-loop-started : goal.invariant-loop-started
invariant-loop-started l = Seen (λ f. f.job.0) l.started-items [] l.started-index l.seen
