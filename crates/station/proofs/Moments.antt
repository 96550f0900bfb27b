-- The states of a sequence from a fresh state are the arrays that hold the rules' moments, and the jobs that its answers name are those that
-- the rules start. An event that is refused with 11 leaves the state as it is: to the rules it is the arrival of a job that is not listed.
use Rattle.std.specs.Prelude.{◌≡◌, refl, true, List, ℕ, zero, suc, length, eqb, Result, Ok, Err, Option}
use Rattle.std.proofs.Common.{ap, sym, ◌∙◌, arith, le_refl, le-leb}
use Rattle.std.proofs.lemmas.Bool.{eqb-false}
use Rattle.std.proofs.lemmas.Bool.Decides.{nat_tests}
use Rattle.std.proofs.Math.Option as maybe
use Rattle.rules.specs.Choice.{pick, first_bad}
use Rattle.rules.specs.Table.{job_count}
use Rattle.rules.specs.State as Rules
use Rattle.rules.specs.Events as R
use Rattle.rules.specs.Run.{moment}
use Rattle.rules.specs.Table as T
use Rattle.rules.proofs.Choices.{by_test}
use Rattle.rules.proofs.Facts as Facts
use Rattle.rules.proofs.Kept.{well_fresh, well_moment}
use Rattle.rules.proofs.Well.{Well}
use Rattle.table.specs.Arrays.{table_of}
use Rattle.table.specs.Judging.{table_judged}
use Rattle.table.specs.Refusals.{when_fit}
use Rattle.table.specs.declared.Table.{Table}
use Rattle.table.specs.declared.JobNo.{JobNo}
use Rattle.table.specs.declared.Refusal.{Refusal}
use Rattle.table.proofs.Fit.{fit_written}
use Rattle.tagged_event.specs.declared.Event.{Event}
use Rattle.tagged_event.specs.Answers.{event_of}
use Rattle.station.specs.WellFormed.{well_formed}
use Rattle.station.specs.declared.State.{State}
use Rattle.station.specs.Arrays.{state_of, arrays_of, fresh_state, Roomy}
use Rattle.station.specs.Reading.{job_said}
use Rattle.station.specs.Applying.{answer, state_after}
use Rattle.station.specs.Sequence.{Sequence, started_in}
use Rattle.station.proofs.Well.{well_back, arrays_well}
use Rattle.station.proofs.Refused.{refused_memory, refused_event}

-- What an event with this stack memory is to the rules.
abbrev pub event_in : Table → List ℕ → Event → R.Event
event_in t m e = pick (eqb (length m) t.size) (event_of e) (R.arrive (job_count (table_of t)))

-- The events of a sequence, as the rules see them.
abbrev pub events_in : (t : Table) {s : State} → Sequence s → ℕ → R.Event
events_in t q m = event_in t (q.memories m) (q.events m)

-- A job that is not listed is refused with 12.
absent_refused : (t : T.Table) (s : Rules.State) → R.refusal t s (R.arrive (job_count t)) ≡ 12
unfolding R.refusal first_bad
absent_refused t s = rw (le-leb _ _ (le_refl (job_count t))) refl

-- So it leaves the state as it is, and starts no job.
absent_stays : (t : T.Table) (s : Rules.State) → R.after t s (R.arrive (job_count t)) ≡ s
absent_stays t s = Facts.refused_state t s (R.arrive (job_count t)) (λ z. omega (arith, z, absent_refused t s))

absent_starts_none : (t : T.Table) (s : Rules.State) → R.started_by t s (R.arrive (job_count t)) ≡ maybe.none
absent_starts_none t s = Facts.refused_starts_none t s (R.arrive (job_count t)) (λ z. omega (arith, z, absent_refused t s))

-- The rules' state after an event, by whether it is refused.
kept_or_after : (t : Table) (s : Rules.State) (e : R.Event)
    → pick (eqb (R.refusal (table_of t) s e) 0) (arrays_of t (R.after (table_of t) s e)) (arrays_of t s) ≡ arrays_of t (R.after (table_of t) s e)
unfolding R.after
kept_or_after t s e =
    by_test (eqb (R.refusal (table_of t) s e) 0) (λ h. rw h refl) (λ h. rw h refl)

-- One event on the arrays that hold a well-formed state.
step_left : (t : Table) (r : Roomy t) (g : table_judged t ≡ 0) (s : Rules.State) → Well (table_of t) s → (m : List ℕ) (e : Event)
    → state_after (arrays_of t s) (length m) (event_of e) ≡ arrays_of t (R.after (table_of t) s (event_in t m e))
unfolding state_after
step_left t r g s w m e =
    let f = arrays_well t s g r.units w in
    let b = well_back t s g r.units w in
    by_test
    (eqb (length m) t.size)
    (λ l. rw (refused_event (arrays_of t s) (length m) (event_of e) f l, b, l) (kept_or_after t s (event_of e)))
    (λ l. rw (refused_memory (arrays_of t s) (length m) (event_of e) f l, l) (ap (arrays_of t) (sym (absent_stays (table_of t) s))))

-- The job that an answer names, by the refusal's number.
named : (r : Result (Option JobNo) Refusal) (n : ℕ) (j : maybe.Option ℕ) → job_said r ≡ when_fit n j
    → started_in r ≡ pick (eqb n 0) j maybe.none
named (Ok x) zero j e = grind arith
named (Ok x) (suc n) j e = grind arith
named (Err x) zero j e = grind arith
named (Err x) (suc n) j e = grind (arith, nat_tests)

-- The job that the rules start, by whether the event is refused.
starts_or_none : (t : T.Table) (s : Rules.State) (e : R.Event) → pick (eqb (R.refusal t s e) 0) (R.started_by t s e) maybe.none ≡ R.started_by t s e
starts_or_none t s e = by_test (eqb (R.refusal t s e) 0) (λ h. rw h refl) (λ h. rw h (sym (Facts.refused_starts_none t s e (eqb-false _ 0 h))))

-- What one event is answered on the arrays that hold a well-formed state.
step_named : (t : Table) (r : Roomy t) (g : table_judged t ≡ 0) (s : Rules.State) → Well (table_of t) s → (m : List ℕ) (e : Event)
    → (x : Result (Option JobNo) Refusal) → job_said x ≡ answer (arrays_of t s) (length m) (event_of e)
    → started_in x ≡ R.started_by (table_of t) s (event_in t m e)
unfolding answer
step_named t r g s w m e x a =
    let f = arrays_well t s g r.units w in
    let b = well_back t s g r.units w in
    named x _ _ a
    ∙ by_test
    (eqb (length m) t.size)
    (λ l. rw (refused_event (arrays_of t s) (length m) (event_of e) f l, b, l) (starts_or_none (table_of t) s (event_of e)))
    (λ l. rw (refused_memory (arrays_of t s) (length m) (event_of e) f l, l) (sym (absent_starts_none (table_of t) s)))

-- ---- all moments

-- The fresh state is the arrays that hold the rules' fresh state.
fresh_arrays : (t : Table) → table_judged t ≡ 0 → fresh_state t ≡ arrays_of t Rules.fresh
fresh_arrays t g = rw g refl

-- It is well formed.
pub fresh_formed : (t : Table) → Roomy t → table_judged t ≡ 0 → (s : State) → s ≡ fresh_state t → well_formed s ≡ true
fresh_formed t r g s e =
    ap well_formed (e ∙ fresh_arrays t g) ∙ arrays_well t Rules.fresh g r.units (well_fresh (table_of t) (fit_written t g r.jobs))

-- The state before event m is the arrays that hold the rules' moment m.
pub state_is : (t : Table) → Roomy t → table_judged t ≡ 0 → (q : Sequence (fresh_state t)) (m : ℕ)
    → q.states m ≡ arrays_of t (moment (table_of t) (events_in t q) m)
unfolding moment
state_is t r g q zero = q.begins ∙ fresh_arrays t g
state_is t r g q (suc m) =
    (q.applies m).left
    ∙ ap (λ s. state_after s (length (q.memories m)) (event_of (q.events m))) (state_is t r g q m)
    ∙ step_left t r g _ (well_moment (table_of t) (fit_written t g r.jobs) (events_in t q) m) (q.memories m) (q.events m)

-- So what the rules see of it is the moment ..
pub view_is : (t : Table) → Roomy t → table_judged t ≡ 0 → (q : Sequence (fresh_state t)) (m : ℕ)
    → state_of (q.states m) ≡ moment (table_of t) (events_in t q) m
view_is t r g q m =
    ap state_of (state_is t r g q m)
    ∙ well_back t _ g r.units (well_moment (table_of t) (fit_written t g r.jobs) (events_in t q) m)

-- .. its table is that of the fresh state ..
pub table_is : (t : Table) → Roomy t → table_judged t ≡ 0 → (q : Sequence (fresh_state t)) (m : ℕ) → (q.states m).table ≡ t
table_is t r g q m = ap (λ (s : State). s.table) (state_is t r g q m)

-- .. and it is well formed.
pub well_is : (t : Table) → Roomy t → table_judged t ≡ 0 → (q : Sequence (fresh_state t)) (m : ℕ) → well_formed (q.states m) ≡ true
well_is t r g q m =
    ap well_formed (state_is t r g q m)
    ∙ arrays_well t _ g r.units (well_moment (table_of t) (fit_written t g r.jobs) (events_in t q) m)

-- The job that answer m names is the one that the rules start.
pub started_is : (t : Table) → Roomy t → table_judged t ≡ 0 → (q : Sequence (fresh_state t)) (m : ℕ)
    → started_in (q.answers m) ≡ R.started_by (table_of t) (moment (table_of t) (events_in t q) m) (events_in t q m)
started_is t r g q m =
    step_named t r g _ (well_moment (table_of t) (fit_written t g r.jobs) (events_in t q) m) (q.memories m) (q.events m) (q.answers m)
    ((q.applies m).answered ∙ ap (λ s. answer s (length (q.memories m)) (event_of (q.events m))) (state_is t r g q m))
