-- Which refusal applying gives: 10 where the state is not well formed, else 11 where the stack memory is too long or too short, else the
-- event's own by the rules. Each is the first of the tests that fails.
use Rattle.std.specs.Prelude.{◌≡◌, refl, true, false, List, [], ◌∷◌, ℕ, zero, suc, length, eqb, Result, Ok, Err, Option, Some, None}
use Rattle.std.proofs.Common.{ap₂, sym, ◌∙◌, arith, eq-eqb}
use Rattle.std.specs.Option.{is_some}
use Rattle.std.proofs.lemmas.Bool.{and_parts}
use Rattle.std.proofs.lemmas.Bool.Decides.{nat_tests}
use Rattle.std.proofs.Math.Option as maybe
use Rattle.rules.specs.Choice.{first_bad}
use Rattle.rules.specs.State as Rules
use Rattle.rules.specs.Table.{Table}
use Rattle.rules.specs.Events as R
use Rattle.rules.specs.Waiting.{head_of}
use Rattle.rules.specs.Start.{starts}
use Rattle.rules.specs.Memory as M
use Rattle.rules.specs.Memory.{cleared_frame}
use Rattle.rules.proofs.Choices.{by_test}
use Rattle.table.specs.Arrays.{table_of}
use Rattle.table.specs.declared.JobNo.{JobNo}
use Rattle.table.specs.declared.Refusal.{Refusal}
use Rattle.table.specs.Refusals.{when_fit}
use Rattle.station.specs.declared.State.{State}
use Rattle.station.specs.declared.start.Tested.{Tested}
use Rattle.station.specs.Arrays.{state_of, who}
use Rattle.station.specs.WellFormed.{well_formed}
use Rattle.station.specs.Applying.{refusal, answer, state_after, memory_after, job_started, step_said, Stepped}

-- 10: the state is not well formed.
pub refused_state : (s : State) (n : ℕ) (e : R.Event) → well_formed s ≡ false → refusal s n e ≡ 10
unfolding refusal first_bad
refused_state s n e w = rw w refl

-- 11: the stack memory's length is not the stack size.
pub refused_memory : (s : State) (n : ℕ) (e : R.Event) → well_formed s ≡ true → eqb n s.table.size ≡ false → refusal s n e ≡ 11
unfolding refusal first_bad
refused_memory s n e w l = rw (w, l) refl

-- Else the refusal is the rules'.
pub refused_event : (s : State) (n : ℕ) (e : R.Event) → well_formed s ≡ true → eqb n s.table.size ≡ true
    → refusal s n e ≡ R.refusal (table_of s.table) (state_of s) e
unfolding refusal R.refusal first_bad
refused_event s n e w l = rw (w, l) refl

-- ---- what applying answers and leaves

-- A refusal with number suc k: it is answered, and nothing changes.
module _ (s : State) (m : List ℕ) (e : R.Event) (k : ℕ) (r : refusal s (length m) e ≡ suc k) where
  pub refused_answer : answer s (length m) e ≡ Err (suc k)
  unfolding answer
  refused_answer = rw r refl

  pub refused_left : s ≡ state_after s (length m) e
  unfolding state_after
  refused_left = rw r (grind (arith, nat_tests))

  pub refused_kept : m ≡ memory_after s m e
  unfolding memory_after
  refused_kept = rw r (grind (arith, nat_tests))

-- What is answered without a refusal.
ok_fits : {A : Type 0} (n : ℕ) (x y : A) → Ok x ≡ when_fit n y → (n ≡ 0) × (x ≡ y)
ok_fits zero x y e = (refl, grind arith)
ok_fits (suc n) x y e = grind arith

no_fit : {A : Type 0} (k n : ℕ) (y : A) → Err k ≡ when_fit n y → eqb n 0 ≡ false
no_fit k zero y e = grind arith
no_fit k (suc n) y e = grind (arith, nat_tests)

-- A job is started exactly where the head starts.
starts_head : (t : Table) (fs : List Rules.Started) (ks : List Rules.Entry) → starts t fs ks ≡ true → head_of ks ≡ maybe.none → ⊥
unfolding starts
starts_head t fs [] h e = grind arith
starts_head t fs (k ∷ ks) h e = grind arith

some_starts : (t : Table) (s : Rules.State) (e : R.Event) (o : Option JobNo) → is_some o ≡ true → who o ≡ R.started_by t s e → R.starts_after t s e ≡ true
unfolding R.started_by
some_starts t s e None b h = grind arith
some_starts t s e (Some j) b h = by_test (R.starts_after t s e) (λ x. x) (λ x. grind arith)

started_head : (t : Table) (s : Rules.State) (e : R.Event) → R.starts_after t s e ≡ true → R.started_by t s e ≡ head_of (R.change t s e).waiting
unfolding R.started_by
started_head t s e b = rw b refl

starts_test : (t : Table) (s : Rules.State) (e : R.Event) → R.starts_after t s e ≡ true → starts t (R.change t s e).stack (R.change t s e).waiting ≡ true
unfolding R.starts_after
starts_test t s e b = (and_parts _ _ b).1

none_starts : (t : Table) (s : Rules.State) (e : R.Event) (o : Option JobNo) → is_some o ≡ false → who o ≡ R.started_by t s e → R.starts_after t s e ≡ false
none_starts t s e None b h =
    by_test (R.starts_after t s e) (λ x. absurd (starts_head t _ _ (starts_test t s e x) (sym (h ∙ started_head t s e x)))) (λ x. x)
none_starts t s e (Some j) b h = grind arith

-- Else it is what the step has answered and left.
module _ (s : State) (m : List ℕ) (e : R.Event) (w : well_formed s ≡ true) (l : length m ≡ s.table.size) where
  own : refusal s (length m) e ≡ R.refusal (table_of s.table) (state_of s) e
  own = refused_event s (length m) e w (eq-eqb (length m) s.table.size l)

  pub stepped_answer : (r : Result (Option Tested) Refusal) (after : State) → Stepped s e r after → step_said r ≡ answer s (length m) e
  unfolding answer
  stepped_answer r after p = rw own p.answer_is

  pub stepped_left : (r : Result (Option Tested) Refusal) (after : State) → Stepped s e r after → after ≡ state_after s (length m) e
  unfolding state_after
  stepped_left r after p = rw own p.state_is

  -- Where a job was started, its frame is zero ..
  pub started_kept : (x : Option Tested) (after : State) → Stepped s e (Ok x) after → is_some (job_started x) ≡ true
      → cleared_frame (table_of after.table) (state_of after).stack m ≡ memory_after s m e
  unfolding memory_after M.memory_after
  started_kept x after p y =
      let f = ok_fits _ _ _ p.answer_is in
      let b = some_starts (table_of s.table) (state_of s) e (job_started x) y f.1 in
      ap₂ (λ t (v : Rules.State). cleared_frame (table_of t) v.stack m) p.table_is p.view_is ∙ rw (own, f.0, b) refl

  -- .. where none was, no byte is changed ..
  pub none_kept : (x : Option Tested) (after : State) → Stepped s e (Ok x) after → is_some (job_started x) ≡ false → m ≡ memory_after s m e
  unfolding memory_after M.memory_after
  none_kept x after p y =
      let f = ok_fits _ _ _ p.answer_is in
      let b = none_starts (table_of s.table) (state_of s) e (job_started x) y f.1 in
      rw (own, f.0, b) refl

  -- .. and so where the event was refused.
  pub stepped_kept : (x : Refusal) (after : State) → Stepped s e (Err x) after → m ≡ memory_after s m e
  unfolding memory_after
  stepped_kept x after p = rw (own, no_fit _ _ _ p.answer_is) refl
