-- The chain tests each place of the stack, and the library says what `contains` finds.
use Rattle.std.specs.Prelude.{take, eqb}
use Rattle.std.proofs.Common.{ap, ◌∙◌, rules, tests}
use Rattle.std.proofs.lemmas.Iterator.{YieldsList-from_slice}
use Rattle.std.proofs.lemmas.Iterator.Search.{any_from_yields_List}
use Rattle.station.specs.declared.Started.{Started}
use Rattle.station.proofs.Active.{any_waiting, active_started, active_waiting}
use Rattle.station.proofs.State.is_active.Goals as goal

pub returns-then-any : goal.returns-then-any
returns-then-any c =
    let s = c.args.self.now in
    active_started s c.args.job.0 c.any.result
    (any_from_yields_List (λ (f : Started). eqb f.job.0 c.args.job.0) _ _ c.any.result c.any.ensures.ran
    (YieldsList-from_slice (take s.depth s.stack) cc)
    (λ x b q k. search (rules, tests)))
    c.if-any.true

pub returns-else-any : goal.returns-else-any
returns-else-any c =
    let s = c.args.self.now in
    active_waiting s c.args.job.0 c.any.result c.contains.result
    (any_from_yields_List (λ (f : Started). eqb f.job.0 c.args.job.0) _ _ c.any.result c.any.ensures.ran
    (YieldsList-from_slice (take s.depth s.stack) cc)
    (λ x b q k. search (rules, tests)))
    c.if-any.false
    (c.contains.ensures.value ∙ ap (any_waiting c.args.job.0) c.waiting_jobs.ensures)
