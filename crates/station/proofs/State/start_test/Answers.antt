-- The start test, by whether the head starts: nobody waits, its level is not above the ceiling, or it starts.
use Rattle.std.specs.Prelude.{◌≡◌, refl, false, map}
use Rattle.std.proofs.Common.{ap, sym, ◌∙◌, arith, option_copied}
use Rattle.rules.specs.Start.{starts}
use Rattle.table.specs.Arrays.{table_of}
use Rattle.station.specs.Arrays.{entry_of, state_of, arrays_of}
use Rattle.station.proofs.Starting.{Starts, none_first, none_starts, head_waits, head_stays, head_goes, head_room, ceiling_kept, state_kept, a_start, ceiling_left}
use Rattle.station.proofs.State.start_test.Goals as goal

-- ---- nobody waits

empty : (c : goal.In_default) → starts (table_of c.args.self.now.table) (state_of c.args.self.now).stack (state_of c.args.self.now).waiting ≡ false
empty c =
    none_starts _ (state_of c.args.self.now).stack _
    (ap (map entry_of) (none_first _ (rw (← c.waiting_jobs.ensures) (sym (ap option_copied c.in_default.is) ∙ c.first.ensures.value))))

pub returns-in_default-clause-ceiling : goal.returns-in_default-clause-ceiling
returns-in_default-clause-ceiling c = ceiling_kept _ _ _ (empty c) c.ceiling_now-ceiling.ensures

pub returns-in_default-clause-state : goal.returns-in_default-clause-state
returns-in_default-clause-state c = state_kept c.args.self.now c.requires (empty c)

-- ---- its level is not above the ceiling

low : (c : goal.Then-level-ceiling) → starts (table_of c.args.self.now.table) (state_of c.args.self.now).stack (state_of c.args.self.now).waiting ≡ false
low c =
    head_stays _ (state_of c.args.self.now).stack _ _ _
    (head_waits c.args.self.now _ _ _ c.waiting_jobs.ensures c.first.ensures.value c.in-Some.is)
    (omega (arith, c.level_of-level.ensures, c.ceiling_now-ceiling.ensures, c.if-level-ceiling.true))

pub returns-then-level-ceiling-clause-started : goal.returns-then-level-ceiling-clause-started
returns-then-level-ceiling-clause-started c = rw (low c) refl

pub returns-then-level-ceiling-clause-ceiling : goal.returns-then-level-ceiling-clause-ceiling
returns-then-level-ceiling-clause-ceiling c = ceiling_kept _ _ _ (low c) c.ceiling_now-ceiling.ensures

pub returns-then-level-ceiling-clause-state : goal.returns-then-level-ceiling-clause-state
returns-then-level-ceiling-clause-state c = state_kept c.args.self.now c.requires (low c)

-- ---- it starts

pub start_head-requires-clause-room : goal.start_head-requires-clause-room
start_head-requires-clause-room c =
    head_room c.args.self.now c.requires _ _ (head_waits c.args.self.now _ _ _ c.waiting_jobs.ensures c.first.ensures.value c.in-Some.is)

-- ---- what it leaves

begun : (c : goal.After-start_head) → Starts c.args.self.now c.in-Some.field-0.now
begun c =
    head_goes c.args.self.now _ _ _ c.waiting_jobs.ensures c.first.ensures.value c.in-Some.is _ _ c.level_of-level.ensures c.ceiling_now-ceiling.ensures c.if-level-ceiling.false

pub returns-clause-started : goal.returns-clause-started
returns-clause-started c = rw ((begun c).test, (begun c).waits) refl

pub returns-clause-ceiling : goal.returns-clause-ceiling
returns-clause-ceiling c = c.level_of-level.ensures ∙ ceiling_left _ (state_of c.args.self.now) _ _ (begun c).waits (begun c).test

pub returns-clause-state : goal.returns-clause-state
returns-clause-state c = c.start_head.ensures ∙ ap (arrays_of c.args.self.now.table) (sym (a_start _ (state_of c.args.self.now) (begun c).test))
