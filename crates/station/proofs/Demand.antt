-- Demand 3 of the code's own states: for a table that could be written, and any sequence of events applied from its fresh state. The states
-- are the arrays that hold the rules' moments (Moments), of which the rules prove the three statements.
use Rattle.std.specs.Prelude.{◌≡◌, ◌≢◌, refl, true, false, [], ℕ, zero, suc, ◌+◌, ◌≤◌, ◌<◌, length, eqb, Result, Ok, Err, Option}
use Rattle.std.specs.Result.{is_ok}
use Rattle.std.proofs.Common.{ap, ap₂, sym, subst, ◌∙◌, arith}
use Rattle.std.proofs.lemmas.List.{nil_from_length}
use Rattle.std.proofs.Math.Option as maybe
use Rattle.rules.specs.Choice.{pick}
use Rattle.rules.specs.Demand3 as R
use Rattle.rules.specs.Run.{moment}
use Rattle.rules.specs.State as Rules
use Rattle.rules.specs.Events as Events
use Rattle.rules.proofs.Choices.{by_test}
use Rattle.rules.proofs.Demand as Proved
use Rattle.table.specs.Arrays.{table_of}
use Rattle.table.specs.Judging.{table_judged, judged_number}
use Rattle.table.specs.Refusals.{when_fit}
use Rattle.table.specs.declared.Table.{Table}
use Rattle.table.specs.declared.JobNo.{JobNo}
use Rattle.table.specs.declared.Refusal.{Refusal}
use Rattle.table.specs.declared.Refusal.TheVariants.{AboveFree}
use Rattle.table.proofs.Numbers.{number_not_zero}
use Rattle.table.proofs.Fit.{fit_written}
use Rattle.tagged_event.specs.Answers.{event_of}
use Rattle.station.specs.declared.State.{State}
use Rattle.station.specs.Arrays.{state_of, state_of_zeros, fresh_state, Roomy}
use Rattle.station.specs.Reading.{job_said}
use Rattle.station.specs.Applying.{refusal, answer}
use Rattle.station.specs.Sequence.{Sequence, activation}
use Rattle.station.specs.Demand3.{Waits, LowerRuns, OneHolder, Demand3}
use Rattle.station.proofs.Refused.{refused_memory, refused_event}
use Rattle.station.proofs.Moments.{events_in, state_is, view_is, table_is, well_is, started_is}

-- Where 18 is answered, it is the refusal's number.
pub number_18 : (r : Result (Option JobNo) Refusal) (n : ℕ) (j : maybe.Option ℕ) → job_said r ≡ when_fit n j → r ≡ Err AboveFree → n ≡ 18
number_18 r zero j e h = grind (arith, ap job_said h)
number_18 r (suc n) j e h = grind (arith, ap job_said h)

module _ (t : Table) (r : Roomy t) (g : table_judged t ≡ 0) (q : Sequence (fresh_state t)) where
  -- What the rules prove of these events.
  proved : R.Demand3 (table_of t) (events_in t q)
  proved = Proved.demand_3 (table_of t) (fit_written t g r.jobs) (events_in t q)

  -- (a)
  never_18 : (m : ℕ) → refusal (q.states m) (length (q.memories m)) (event_of (q.events m)) ≢ 18
  never_18 m h =
      by_test
      (eqb (length (q.memories m)) (q.states m).table.size)
      (λ l. proved.enough m (event_of (q.events m))
      (sym (ap₂ (λ t' s. Events.refusal (table_of t') s (event_of (q.events m))) (table_is t r g q m) (view_is t r g q m))
      ∙ (sym (refused_event (q.states m) _ _ (well_is t r g q m) l) ∙ h)))
      (λ l. omega (arith, refused_memory (q.states m) (length (q.memories m)) (event_of (q.events m)) (well_is t r g q m) l, h))

  -- Event m is answered by its refusal's number, or names the job that the rules start.
  answered_by : (m : ℕ) → job_said (q.answers m) ≡ when_fit (refusal (q.states m) (length (q.memories m)) (event_of (q.events m)))
      (Events.started_by (table_of (q.states m).table) (state_of (q.states m)) (event_of (q.events m)))
  unfolding answer
  answered_by m = (q.applies m).answered

  enough : (m : ℕ) → q.answers m ≢ Err AboveFree
  enough m h = never_18 m (number_18 _ _ _ (answered_by m) h)

  -- (b): activations are counted alike ..
  activation_is : (j m : ℕ) → activation q.answers j m ≡ R.activation (table_of t) (events_in t q) j m
  unfolding activation R.activation
  activation_is j zero = refl
  activation_is j (suc m) = ap₂ (λ n i. n + pick (R.is_job j i) 1 0) (activation_is j m) (started_is t r g q m)

  -- .. and what runs, waits and holds is read off the moments.
  blocked_once : (j from to : ℕ) → from ≤ to → ((m : ℕ) → from ≤ m → m ≤ to → Waits (q.states m) j)
      → LowerRuns (q.states from) j → LowerRuns (q.states to) j → OneHolder q from to
  blocked_once j from to l waits x y =
      let lower : (m : ℕ) → LowerRuns (q.states m) j → R.lower_runs (table_of t) (moment (table_of t) (events_in t q) m).stack j ≡ true =
      λ m h. sym (ap₂ (λ t' (s : Rules.State). R.lower_runs (table_of t') s.stack j) (table_is t r g q m) (view_is t r g q m)) ∙ h in
      let h = proved.blocked_once j from to l
      (λ m a b. sym (ap (λ s. R.is_waiting s j) (view_is t r g q m)) ∙ waits m a b) (lower from x) (lower to y) in
      record {
        job = h.job;
        runs_first = ap (λ (s : Rules.State). Rules.is_running s.stack h.job) (view_is t r g q from) ∙ h.runs_first;
        runs_last = ap (λ (s : Rules.State). Rules.is_running s.stack h.job) (view_is t r g q to) ∙ h.runs_last;
        one_activation = activation_is h.job from ∙ h.one_activation ∙ sym (activation_is h.job to);
        one_stretch = λ m a b. subst (λ (s : Rules.State). 0 < R.units_held s.stack h.job) (sym (view_is t r g q m)) (h.one_stretch m a b);
      }

  -- (c)
  never_idle : (m : ℕ) → (q.states m).depth ≡ 0 → (q.states m).waiting_count ≡ 0
  never_idle m d =
      let s = state_is t r g q m in
      let e : (moment (table_of t) (events_in t q) m).stack ≡ [] = nil_from_length _ (sym (ap (λ (x : State). x.depth) s) ∙ d) in
      ap (λ (x : State). x.waiting_count) s ∙ ap length (proved.never_idle m e)

-- Demand 3, of every table that could be written and every sequence of events applied from its fresh state.
pub demand_3 : (t : Table) → Roomy t → table_judged t ≡ 0 → (q : Sequence (fresh_state t)) → Demand3 q
demand_3 t r g q = record { enough = enough t r g q; blocked_once = blocked_once t r g q; never_idle = never_idle t r g q }

-- The same of a state that is the fresh one.
pub demand_3_of : (t : Table) → Roomy t → table_judged t ≡ 0 → (s : State) → fresh_state t ≡ s → (q : Sequence s) → Demand3 q
demand_3_of t r g s e = subst (λ s. (q : Sequence s) → Demand3 q) e (demand_3 t r g)

-- Who is told that no fresh state was made has a refusal's number.
pub refused_not_made : (r : Result (Unit {0}) Refusal) → is_ok r ≡ false → judged_number r ≡ 0 → ⊥
refused_not_made (Ok x) f e = grind arith
refused_not_made (Err x) f e = number_not_zero x e

-- A state of zeros with the table put in is the fresh state.
pub fresh_is : (t : Table) → table_judged t ≡ 0 → (z : State) → z ≡ state_of_zeros
    → fresh_state t ≡ record { table = t; stack = z.stack; depth = z.depth; waiting = z.waiting; waiting_count = z.waiting_count }
fresh_is t g z e =
    rw g (sym (ap (λ (s : State). record { table = t; stack = s.stack; depth = s.depth; waiting = s.waiting; waiting_count = s.waiting_count }) e))
