-- At first nothing is marked; and a job that is started twice is there twice.
use Rattle.std.proofs.Common.{sym, ◌∙◌}
use Rattle.rules.specs.State.{started_jobs, waiting_jobs}
use Rattle.station.specs.Arrays.{state_of}
use Rattle.station.proofs.Once.{none_marked, once_before}
use Rattle.station.proofs.State.none_twice.Goals as goal

pub see_started-requires-clause-none_seen : goal.see_started-requires-clause-none_seen
see_started-requires-clause-none_seen c = none_marked

pub returns-else-see_started : goal.returns-else-see_started
returns-else-see_started c =
    let s = state_of c.args.self.now in
    let e = c.if-see_started.false in
    e ∙ sym (once_before (started_jobs s.stack) (waiting_jobs s.waiting) (sym c.see_started.ensures.once ∙ e))
