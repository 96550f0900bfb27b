-- One job more, one that is there twice, and the end of the walk.
use Rattle.std.proofs.Common.{sym, ◌∙◌, rules}
use Rattle.station.proofs.Formed.{few_waiting}
use Rattle.station.proofs.Once.{seen_before, seen_more, waiting_twice, waiting_all}
use Rattle.station.proofs.State.see_waiting.Goals as goal

pub loop-job-init : goal.loop-job-init
loop-job-init c = seen_before _ _ _ _ c.requires.started_seen c.requires.started

pub see-requires : goal.see-requires
see-requires c = few_waiting c.args.self.now c.requires.fits c.requires.listed _ c.waiting_jobs-job-items.ensures _ _ c.loop-job-test.true

pub loop-job-preserved : goal.loop-job-preserved
loop-job-preserved c =
    rw c.see.ensures.marked
    (seen_more (λ j. j.0) _ _ (few_waiting c.args.self.now c.requires.fits c.requires.listed _ c.waiting_jobs-job-items.ensures) _ _ c.loop-job.seen
    c.loop-job-test.true (search rules) c.loop-job.invariant (sym c.see.ensures.first ∙ c.if-not-see.false))

pub returns-then-not-see : goal.returns-then-not-see
returns-then-not-see c =
    sym (waiting_twice c.args.self.now c.requires.fits c.requires.listed _ c.waiting_jobs-job-items.ensures _ _ c.loop-job.seen
    c.loop-job-test.true c.loop-job.invariant (sym c.see.ensures.first ∙ c.if-not-see.true))

pub returns : goal.returns
returns c =
    sym (waiting_all c.args.self.now c.requires.fits c.requires.listed _ c.waiting_jobs-job-items.ensures _ _ c.loop-job-test.false c.loop-job.invariant)
