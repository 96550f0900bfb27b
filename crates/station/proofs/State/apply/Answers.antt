-- Applying, by its ways out: 10, 11, or what one event answers on a well-formed state.
use Rattle.std.specs.Prelude.{◌≡◌, false, length, eqb}
use Rattle.std.proofs.Common.{sym, ◌∙◌, arith}
use Rattle.std.proofs.lemmas.Bool.Decides.{nat_tests}
use Rattle.std.proofs.lemmas.Result.{err_from_is_err_and}
use Rattle.tagged_event.specs.Answers.{event_of}
use Rattle.station.specs.Applying.{refusal}
use Rattle.station.proofs.Refused.{refused_state, refused_memory, refused_answer, refused_left, refused_kept, stepped_answer, stepped_left, stepped_kept, started_kept, none_kept}
use Rattle.station.proofs.State.apply.Goals as goal

-- ---- 10

ten : (c : goal.Then-not-is_well_formed) → refusal c.args.self.now (length c.args.memory.now) (event_of c.args.event) ≡ 10
ten c = refused_state c.args.self.now _ _ (sym c.is_well_formed.ensures ∙ c.if-not-is_well_formed.true)

pub returns-then-not-is_well_formed-clause-answer : goal.returns-then-not-is_well_formed-clause-answer
returns-then-not-is_well_formed-clause-answer c = sym (refused_answer c.args.self.now c.args.memory.now _ 9 (ten c))

pub returns-then-not-is_well_formed-clause-state : goal.returns-then-not-is_well_formed-clause-state
returns-then-not-is_well_formed-clause-state c = refused_left c.args.self.now c.args.memory.now _ 9 (ten c)

pub returns-then-not-is_well_formed-clause-memory : goal.returns-then-not-is_well_formed-clause-memory
returns-then-not-is_well_formed-clause-memory c = refused_kept c.args.self.now c.args.memory.now _ 9 (ten c)

-- ---- 11

eleven : (c : goal.Then-memory-from) → refusal c.args.self.now (length c.args.memory.now) (event_of c.args.event) ≡ 11
eleven c =
    let l : eqb (length c.args.memory.now) c.args.self.now.table.size ≡ false = grind (arith, nat_tests, c.from.ensures, c.if-memory-from.true) in
    refused_memory c.args.self.now _ _ (sym c.is_well_formed.ensures ∙ c.if-not-is_well_formed.false) l

pub returns-then-memory-from-clause-answer : goal.returns-then-memory-from-clause-answer
returns-then-memory-from-clause-answer c = sym (refused_answer c.args.self.now c.args.memory.now _ 10 (eleven c))

pub returns-then-memory-from-clause-state : goal.returns-then-memory-from-clause-state
returns-then-memory-from-clause-state c = refused_left c.args.self.now c.args.memory.now _ 10 (eleven c)

pub returns-then-memory-from-clause-memory : goal.returns-then-memory-from-clause-memory
returns-then-memory-from-clause-memory c = refused_kept c.args.self.now c.args.memory.now _ 10 (eleven c)

-- ---- one event is refused

pub returns-in_err-step-clause-answer : goal.returns-in_err-step-clause-answer
returns-in_err-step-clause-answer c =
    let p = err_from_is_err_and c.from_residual.result c.from_residual.ensures.1 in
    rw (p.1, p.2) (stepped_answer c.args.self.now c.args.memory.now _ (sym c.is_well_formed.ensures ∙ c.if-not-is_well_formed.false)
    (c.if-memory-from.false ∙ c.from.ensures) _ _ c.in_err-step.ensures)

pub returns-in_err-step-clause-state : goal.returns-in_err-step-clause-state
returns-in_err-step-clause-state c =
    stepped_left c.args.self.now c.args.memory.now _ (sym c.is_well_formed.ensures ∙ c.if-not-is_well_formed.false) (c.if-memory-from.false ∙ c.from.ensures)
    _ _ c.in_err-step.ensures

pub returns-in_err-step-clause-memory : goal.returns-in_err-step-clause-memory
returns-in_err-step-clause-memory c =
    stepped_kept c.args.self.now c.args.memory.now _ (sym c.is_well_formed.ensures ∙ c.if-not-is_well_formed.false)
    (c.if-memory-from.false ∙ c.from.ensures) _ _ c.in_err-step.ensures

-- ---- it is accepted and starts a job

pub returns-then-is_some-clause-answer : goal.returns-then-is_some-clause-answer
returns-then-is_some-clause-answer c =
    rw c.started_by-started.ensures (stepped_answer c.args.self.now c.args.memory.now _ (sym c.is_well_formed.ensures ∙ c.if-not-is_well_formed.false)
    (c.if-memory-from.false ∙ c.from.ensures) _ _ c.in_ok-step.ensures)

pub returns-then-is_some-clause-state : goal.returns-then-is_some-clause-state
returns-then-is_some-clause-state c =
    stepped_left c.args.self.now c.args.memory.now _ (sym c.is_well_formed.ensures ∙ c.if-not-is_well_formed.false) (c.if-memory-from.false ∙ c.from.ensures)
    _ _ c.in_ok-step.ensures

pub returns-then-is_some-clause-memory : goal.returns-then-is_some-clause-memory
returns-then-is_some-clause-memory c =
    c.clear_top.ensures
    ∙ started_kept c.args.self.now c.args.memory.now _ (sym c.is_well_formed.ensures ∙ c.if-not-is_well_formed.false) (c.if-memory-from.false ∙ c.from.ensures)
    _ _ c.in_ok-step.ensures (rw (← c.started_by-started.ensures) (sym c.is_some.ensures ∙ c.if-is_some.true))

-- ---- or starts none

pub returns-else-is_some-clause-answer : goal.returns-else-is_some-clause-answer
returns-else-is_some-clause-answer c =
    rw c.started_by-started.ensures (stepped_answer c.args.self.now c.args.memory.now _ (sym c.is_well_formed.ensures ∙ c.if-not-is_well_formed.false)
    (c.if-memory-from.false ∙ c.from.ensures) _ _ c.in_ok-step.ensures)

pub returns-else-is_some-clause-state : goal.returns-else-is_some-clause-state
returns-else-is_some-clause-state c =
    stepped_left c.args.self.now c.args.memory.now _ (sym c.is_well_formed.ensures ∙ c.if-not-is_well_formed.false) (c.if-memory-from.false ∙ c.from.ensures)
    _ _ c.in_ok-step.ensures

pub returns-else-is_some-clause-memory : goal.returns-else-is_some-clause-memory
returns-else-is_some-clause-memory c =
    none_kept c.args.self.now c.args.memory.now _ (sym c.is_well_formed.ensures ∙ c.if-not-is_well_formed.false) (c.if-memory-from.false ∙ c.from.ensures)
    _ _ c.in_ok-step.ensures (rw (← c.started_by-started.ensures) (sym c.is_some.ensures ∙ c.if-is_some.false))
