-- One event on a well-formed state, by what became of it: it was refused, it was accepted with no start test, or the start test was made on the
-- state as it has left it. The rules say the same of each, since the state that it has left holds the rules' change.
use Rattle.std.specs.Prelude.{◌≡◌, ◌≢◌, refl, true, false, ℕ, zero, suc, length, Result, Ok, Err, Option, Some, None}
use Rattle.std.proofs.Common.{ap, ap₂, sym, ◌∙◌, ne_eqb}
use Rattle.std.proofs.Math.Option as maybe
use Rattle.rules.specs.Choice.{pick}
use Rattle.rules.specs.Limits.{max_resources}
use Rattle.rules.specs.Table as T
use Rattle.rules.specs.State as Rules
use Rattle.rules.specs.Ceilings.{system_ceiling}
use Rattle.rules.specs.Waiting.{head_of}
use Rattle.rules.specs.Start.{starts, start_test}
use Rattle.rules.specs.Events as R
use Rattle.rules.proofs.Facts as Facts
use Rattle.table.specs.Arrays.{table_of}
use Rattle.table.specs.Refusals.{number_of, when_fit}
use Rattle.table.specs.declared.Refusal.{Refusal}
use Rattle.table.proofs.Numbers.{number_not_zero}
use Rattle.station.specs.declared.State.{State}
use Rattle.station.specs.declared.start.Tested.{Tested}
use Rattle.station.specs.Arrays.{state_of, arrays_of, who}
use Rattle.station.specs.WellFormed.{well_formed}
use Rattle.station.specs.Applying.{changed, step_said, CeilingIs, Stepped}
use Rattle.station.proofs.Kept.{Holds, holds_after, changed_refused}

-- A refusal's number is what is answered.
when_refused : {A : Type 0} (n : ℕ) (x : A) → n ≢ 0 → when_fit n x ≡ Err n
when_refused zero x h = absurd (h refl)
when_refused (suc n) x h = refl

-- It was refused.
pub stepped_refused : (s : State) (e : R.Event) (x : Refusal) (r : Result (Option Tested) Refusal) (after : State) → well_formed s ≡ true
    → r ≡ Err x → number_of x ≡ R.refusal (table_of s.table) (state_of s) e → after ≡ changed s e → Stepped s e r after
stepped_refused s e x r after w p n c =
    let t = table_of s.table in
    let z : R.refusal t (state_of s) e ≢ 0 = λ h. number_not_zero x (n ∙ h) in
    let f = ne_eqb (R.refusal t (state_of s) e) 0 z in
    let k : after ≡ s = c ∙ changed_refused s e f in
    rw (p, k) (record {
      answer_is = ap Err n ∙ sym (when_refused (R.refusal t (state_of s) e) (R.started_by t (state_of s) e) z);
      ceiling_is = tt;
      state_is = rw f refl;
      view_is = sym (Facts.refused_state t (state_of s) e z);
      table_is = refl;
      formed = w;
    })

-- What an accepted event does, by the rules.
module _ (t : T.Table) (s : Rules.State) (e : R.Event) (a : R.refusal t s e ≡ 0) where
  untested_after : R.is_tested e ≡ false → R.after t s e ≡ R.change t s e
  unfolding R.after
  untested_after h = rw (a, h) refl

  tested_after : R.is_tested e ≡ true → R.after t s e ≡ start_test t (R.change t s e)
  unfolding R.after
  tested_after h = rw (a, h) refl

  untested_starts : R.is_tested e ≡ false → R.starts_after t s e ≡ false
  unfolding R.starts_after
  untested_starts h = rw (a, h) refl

  tested_starts : R.is_tested e ≡ true → R.starts_after t s e ≡ starts t (R.change t s e).stack (R.change t s e).waiting
  unfolding R.starts_after
  tested_starts h = rw (a, h) refl

-- It was accepted: what is answered, and the state, which is that of the rules.
accepted : (s : State) (e : R.Event) (r : Result (Option Tested) Refusal) (after : State) → length s.table.units ≡ max_resources → well_formed s ≡ true
    → 0 ≡ R.refusal (table_of s.table) (state_of s) e
    → step_said r ≡ Ok (R.started_by (table_of s.table) (state_of s) e)
    → CeilingIs (system_ceiling (table_of s.table) (R.after (table_of s.table) (state_of s) e).stack) r
    → after ≡ arrays_of s.table (R.after (table_of s.table) (state_of s) e) → Stepped s e r after
accepted s e r after u w a p q n =
    let h = holds_after s e after u w a n in
    record {
      answer_is = p ∙ rw (← a) refl;
      ceiling_is = q;
      state_is = n ∙ rw (← a) refl;
      view_is = h.view;
      table_is = h.table;
      formed = h.formed;
    }

-- No start test is made.
pub stepped_untested : (s : State) (e : R.Event) (after : State) → length s.table.units ≡ max_resources → well_formed s ≡ true
    → 0 ≡ R.refusal (table_of s.table) (state_of s) e → R.is_tested e ≡ false → after ≡ changed s e → Stepped s e (Ok None) after
unfolding R.started_by changed
stepped_untested s e after u w a h c =
    let t = table_of s.table in
    let st = state_of s in
    accepted s e (Ok None) after u w a
    (rw (untested_starts t st e (sym a) h) refl)
    tt
    (c ∙ rw (← a) (ap (arrays_of s.table) (sym (untested_after t st e (sym a) h))))

-- The start test is made on the state as the event has left it.
pub stepped_tested : (s : State) (e : R.Event) (left : State) → length s.table.units ≡ max_resources → well_formed s ≡ true
    → 0 ≡ R.refusal (table_of s.table) (state_of s) e → R.is_tested e ≡ true
    → Holds s.table (R.change (table_of s.table) (state_of s) e) left → (x : Tested) (after : State)
    → who x.started ≡ pick (starts (table_of left.table) (state_of left).stack (state_of left).waiting) (head_of (state_of left).waiting) maybe.none
    → x.ceiling.0 ≡ system_ceiling (table_of left.table) (start_test (table_of left.table) (state_of left)).stack
    → after ≡ arrays_of left.table (start_test (table_of left.table) (state_of left))
    → Stepped s e (Ok (Some x)) after
unfolding R.started_by
stepped_tested s e left u w a h l x after p q n =
    let t = table_of s.table in
    let st = state_of s in
    let b = tested_starts t st e (sym a) h in
    let d = tested_after t st e (sym a) h in
    accepted s e (Ok (Some x)) after u w a
    (rw b (ap Ok (p ∙ ap₂ (λ t' v. pick (starts (table_of t') v.stack v.waiting) (head_of v.waiting) maybe.none) l.table l.view)))
    (rw d (q ∙ ap₂ (λ t' v. system_ceiling (table_of t') (start_test (table_of t') v).stack) l.table l.view))
    (rw d (n ∙ ap₂ (λ t' v. arrays_of t' (start_test (table_of t') v)) l.table l.view))
