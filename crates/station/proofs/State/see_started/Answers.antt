-- One job more, one that is there twice, and the end of the walk.
use Rattle.std.specs.Prelude.{[]}
use Rattle.std.proofs.Common.{sym, ◌∙◌, rules}
use Rattle.station.proofs.Formed.{few_started}
use Rattle.station.proofs.Once.{none_seen, seen_more, started_twice, started_all}
use Rattle.station.proofs.State.see_started.Goals as goal

pub loop-started-init : goal.loop-started-init
loop-started-init c = none_seen _ _ _ c.requires.none_seen

pub see-requires : goal.see-requires
see-requires c = few_started c.args.self.now c.requires.fits c.requires.listed _ c.started-started-items.ensures _ _ c.loop-started-test.true

pub loop-started-preserved : goal.loop-started-preserved
loop-started-preserved c =
    rw c.see.ensures.marked
    (seen_more (λ f. f.job.0) _ [] (few_started c.args.self.now c.requires.fits c.requires.listed _ c.started-started-items.ensures) _ _ c.loop-started.seen
    c.loop-started-test.true (search rules) c.loop-started.invariant (sym c.see.ensures.first ∙ c.if-not-see.false))

pub returns-then-not-see-clause-once : goal.returns-then-not-see-clause-once
returns-then-not-see-clause-once c =
    sym (started_twice c.args.self.now c.requires.fits c.requires.listed _ c.started-started-items.ensures _ _ c.loop-started.seen
    c.loop-started-test.true c.loop-started.invariant (sym c.see.ensures.first ∙ c.if-not-see.true))

pub returns-clause-once : goal.returns-clause-once
returns-clause-once c =
    sym (started_all c.args.self.now c.requires.fits c.requires.listed _ c.started-started-items.ensures _ _ c.loop-started-test.false c.loop-started.invariant).1

pub returns-clause-marked : goal.returns-clause-marked
returns-clause-marked c = λ _.
    (started_all c.args.self.now c.requires.fits c.requires.listed _ c.started-started-items.ensures _ _ c.loop-started-test.false c.loop-started.invariant).0
