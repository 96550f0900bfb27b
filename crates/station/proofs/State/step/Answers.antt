-- One event, by its three ways out: refused, accepted with no start test, or with one.
use Rattle.std.proofs.Common.{ap, sym, ◌∙◌}
use Rattle.std.proofs.lemmas.Result.{err_from_is_err_and}
use Rattle.table.specs.Refusals.{number_of}
use Rattle.tagged_event.specs.Answers.{event_of}
use Rattle.station.proofs.Kept.{holds_changed}
use Rattle.station.proofs.Stepping.{stepped_refused, stepped_untested, stepped_tested}
use Rattle.station.proofs.State.step.Goals as goal

pub returns-in_err-change : goal.returns-in_err-change
returns-in_err-change c =
    let p = err_from_is_err_and c.from_residual.result c.from_residual.ensures.1 in
    stepped_refused c.args.self.now (event_of c.args.event) p.0 c.from_residual.result c.change.new.self c.requires p.1
    (ap number_of p.2 ∙ c.in_err-change.ensures.answer) c.change.ensures.state

pub returns-then-not-is_tested : goal.returns-then-not-is_tested
returns-then-not-is_tested c =
    stepped_untested c.args.self.now (event_of c.args.event) c.change.new.self c.unit_places.ensures c.requires c.in_ok-change.ensures.answer
    (sym c.is_tested.ensures ∙ c.if-not-is_tested.true) c.change.ensures.state

-- The state as the event has left it holds the rules' change.
pub start_test-requires : goal.start_test-requires
start_test-requires c =
    (holds_changed c.args.self.now (event_of c.args.event) c.change.new.self c.unit_places.ensures c.requires c.in_ok-change.ensures.answer
    c.change.ensures.state).formed

pub returns : goal.returns
returns c =
    let e = event_of c.args.event in
    let s = c.args.self.now in
    let x = c.start_test.ensures in
    stepped_tested s e c.change.new.self c.unit_places.ensures c.requires c.in_ok-change.ensures.answer (sym c.is_tested.ensures ∙ c.if-not-is_tested.false)
    (holds_changed s e c.change.new.self c.unit_places.ensures c.requires c.in_ok-change.ensures.answer c.change.ensures.state)
    c.start_test.result c.start_test.new.self x.started x.ceiling x.state
