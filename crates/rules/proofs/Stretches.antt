-- Demand 3 (b), by entries: while the entry w waits, look at the topmost started job that w is sooner than. No start goes below w, so this job
-- stays the same one; it runs only while it holds units, and once it holds none it does not run again before w starts.
use Rattle.std.specs.Prelude.{◌≡◌, refl, ◌⊎◌, Bool, true, false, ◌&&◌, List, [], ◌∷◌, ℕ, suc, ◌≤◌, ◌<◌, eqb}
use Rattle.std.proofs.Common.{sym, ap, ◌∙◌, inl, inr, ⊎_elim, true≢false, le_refl, le_trans, eq-zero-or-pos, add-zero, arith, eq-eqb, ne_eqb}
use Rattle.std.proofs.lemmas.Bool.{false≢true, cases_Bool, true_from_ne_false, false_from_ne_true}
use Rattle.std.proofs.lemmas.Bool.Decides.{nat_tests}
use Rattle.std.proofs.Math.Option.{none, some}
use Rattle.std.proofs.Math.Decide.{le_ind}
use Rattle.rules.specs.Choice.{pick}
use Rattle.rules.specs.Counting.{total}
use Rattle.rules.specs.Table.{Table, resource_count, table_refusal}
use Rattle.rules.specs.State.{Entry, Started, State, put, level_at, running_level, running_held, held_in}
use Rattle.rules.specs.Ceilings.{resource_ceiling, system_ceiling}
use Rattle.rules.specs.Waiting.{sooner, head_of}
use Rattle.rules.specs.Start.{starts, newly_started, with_start, start_test}
use Rattle.rules.specs.Events.{Event, Effect, enter, hold, leave, effect, applied, change, is_tested, refusal, after, starts_after, started_by}
use Rattle.rules.specs.Run.{moment}
use Rattle.rules.specs.Demand3.{is_job, activation, units_held, Stretch}
use Rattle.rules.proofs.Choices.{pick_case}
use Rattle.rules.proofs.Counts.{total_at, total_zeros}
use Rattle.rules.proofs.Tables.{Good, good_table}
use Rattle.rules.proofs.Ceilings.{resource_ceiling_mono}
use Rattle.rules.proofs.Order.{Live, sooner_behind, starts_is}
use Rattle.rules.proofs.Well.{All, live_all}
use Rattle.rules.proofs.Accepted.{Fair, fair, after_case}
use Rattle.rules.proofs.Invariant.{Sound, Falling, Pre, Inv, pre_applied, inv_moment}

-- ---- who waits and who runs, by entries

abbrev pub Among : Entry → List Entry → Type 0
Among w [] = ⊥
Among w (k ∷ ks) = (k ≡ w) ⊎ Among w ks

abbrev pub Waits : State → Entry → Type 0
Waits s w = Among w s.waiting

abbrev pub Top : List Started → Entry → Type 0
Top [] a = ⊥
Top (f ∷ fs) a = f.entry ≡ a

-- ---- a running job that a waiting one is sooner than holds units

all_at : (P : Entry → Type 0) (w : Entry) (ks : List Entry) → All P ks → Among w ks → P w
all_at P w [] m e = absurd e
all_at P w (k ∷ ks) m (inl q) = rw q at m.0
all_at P w (k ∷ ks) m (inr e) = all_at P w ks m.1 e

-- then the head is sooner than it too
head_sooner : (t : Table) → Good t → (s : State) (f w k : Entry) (ks : List Entry) → Live t s f → All (Live t s) (k ∷ ks) → Falling t (k ∷ ks)
    → Among w (k ∷ ks) → sooner t w f ≡ true → sooner t k f ≡ true
head_sooner t g s f w k ks l ls m (inl q) h = rw q h
head_sooner t g s f w k ks l ls m (inr e) h =
    true_from_ne_false _
    (λ n. true≢false (sym h ∙ sooner_behind t g s f k w l ls.0 (all_at (Live t s) w ks ls.1 e) n
    (all_at (λ x. sooner t x k ≡ false) w ks m.0 e)))

passed_holds : (t : Table) (s : State) (f : Started) (fs : List Started) (ks : List Entry) (w : Entry) → Inv t (put s (f ∷ fs) ks) → Among w ks
    → sooner t w f.entry ≡ true → 0 < total f.held
passed_holds t s f fs [] w i e l = absurd e
passed_holds t s f fs (k ∷ ks) w i e l =
    ⊎_elim
    (λ (z : total f.held ≡ 0).
    let g : Good t = good_table t i.pre.well.table in
    let v = live_all t (put s (f ∷ fs) (k ∷ ks)) i.pre.well in
    let m : resource_ceiling t (f ∷ fs) ≤ resource_ceiling t fs =
    resource_ceiling_mono t (f ∷ fs) fs (λ r _. unfold held_in in omega (arith, total_at f.held r)) in
    let y : sooner t k f.entry ≡ true = head_sooner t g s f.entry w k ks v.0.0 v.1 i.pre.falling e l in
    let h : level_at t f.entry < level_at t k = i.pre.rises.0.0 y in
    let n : level_at t k ≤ system_ceiling t (f ∷ fs) = grind (arith, nat_tests, i.back, starts_is t (f ∷ fs) k ks) in
    absurd (unfold system_ceiling in omega (arith, i.pre.sound.0.above, n)))
    (λ p. p)
    (eq-zero-or-pos (total f.held))

-- ---- the part of the stack from the topmost that w is sooner than

unfoldable low_part : Table → Entry → List Started → List Started
low_part t w [] = []
low_part t w (f ∷ fs) = pick (sooner t w f.entry) (f ∷ fs) (low_part t w fs)

low_yes : (t : Table) (w : Entry) (f : Started) (fs : List Started) → sooner t w f.entry ≡ true → low_part t w (f ∷ fs) ≡ f ∷ fs
unfolding low_part
low_yes t w f fs q = rw q

low_no : (t : Table) (w : Entry) (f : Started) (fs : List Started) → sooner t w f.entry ≡ false → low_part t w (f ∷ fs) ≡ low_part t w fs
unfolding low_part
low_no t w f fs q = rw q

-- a start leaves it, while w waits
low_start : (t : Table) (s : State) (fs : List Started) (ks : List Entry) (w : Entry) → Pre t (put s fs ks)
    → Waits (start_test t (put s fs ks)) w → low_part t w (start_test t (put s fs ks)).stack ≡ low_part t w fs
unfolding start_test
low_start t s fs [] w p = unfold starts in λ e. refl
low_start t s fs (k ∷ ks) w p =
    pick_case (λ (s : State). Waits s w → low_part t w s.stack ≡ low_part t w fs) (starts t fs (k ∷ ks)) _ _
    (λ q e. low_no t w (newly_started t k) fs (all_at (λ x. sooner t x k ≡ false) w ks p.falling.0 e))
    (λ q e. refl)

-- what an accepted event does to it while w waits: either its top runs, holds units and stays the top; or nothing
Kept : Table → Entry → Entry → List Started → List Started → Type 0
Kept t w a fs gs = ((0 < total (running_held (low_part t w fs))) × Top (low_part t w gs) a) ⊎ (low_part t w gs ≡ low_part t w fs)

module _ (t : Table) (s : State) (f : Started) (fs : List Started) (ks : List Entry) (w a : Entry) (i : Inv t (put s (f ∷ fs) ks)) (m : Among w ks)
    (b : Top (low_part t w (f ∷ fs)) a) where
  low_applied : (v : Bool) (x : Effect) → Fair t (put s (f ∷ fs) ks) v x → Kept t w a (f ∷ fs) (applied t (put s (f ∷ fs) ks) x).stack
  unfolding Kept applied
  low_applied v (enter e) h = inr refl
  low_applied v (hold y) h =
      ⊎_elim
      (λ q. inl (
        rw (low_yes t w f fs q) (passed_holds t s f fs ks w i m q),
        rw (low_yes t w (record { entry = f.entry; held = y }) fs q) (rw (low_yes t w f fs q) at b),
      ))
      (λ q. inr (low_no t w (record { entry = f.entry; held = y }) fs q ∙ sym (low_no t w f fs q)))
      (cases_Bool (sooner t w f.entry))
  low_applied v leave h =
      ⊎_elim
      (λ q. absurd (omega (arith, passed_holds t s f fs ks w i m q, h.0)))
      (λ q. inr (sym (low_no t w f fs q)))
      (cases_Bool (sooner t w f.entry))

  kept_then : (gs hs : List Started) → Kept t w a (f ∷ fs) gs → low_part t w hs ≡ low_part t w gs → Kept t w a (f ∷ fs) hs
  unfolding Kept
  kept_then gs hs (inl x) e = inl (x.0, rw e x.1)
  kept_then gs hs (inr y) e = inr (e ∙ y)

  low_settle : (v : Bool) (x : Effect) → Fair t (put s (f ∷ fs) ks) v x
      → Waits (pick v (start_test t (applied t (put s (f ∷ fs) ks) x)) (applied t (put s (f ∷ fs) ks) x)) w
      → Kept t w a (f ∷ fs) (pick v (start_test t (applied t (put s (f ∷ fs) ks) x)) (applied t (put s (f ∷ fs) ks) x)).stack
  low_settle true x h u =
      kept_then _ _ (low_applied true x h) (low_start t (applied t (put s (f ∷ fs) ks) x) _ _ w (pre_applied t s (f ∷ fs) ks i.pre true x h) u)
  low_settle false x h u = low_applied false x h

low_after : (t : Table) (s : State) (fs : List Started) (ks : List Entry) (w a : Entry) (e : Event) → Inv t (put s fs ks) → Among w ks
    → Top (low_part t w fs) a → Waits (after t (put s fs ks) e) w → Kept t w a fs (after t (put s fs ks) e).stack
unfolding Kept
low_after t s [] ks w a e i m b = absurd (unfold low_part in b)
low_after t s (f ∷ fs) ks w a e i m b =
    after_case (λ u. Waits u w → Kept t w a (f ∷ fs) u.stack) t (put s (f ∷ fs) ks) e
    (λ q. low_settle t s f fs ks w a i m b (is_tested e) (effect t (put s (f ∷ fs) ks) e) (fair t s (f ∷ fs) ks i.pre.well e q))
    (λ v. inr refl)

-- ---- the moments p .. q throughout which w waits

module _ (t : Table) (g : table_refusal t ≡ 0) (es : ℕ → Event) (w a : Entry) (p : ℕ) where
  abbrev low : ℕ → List Started
  low m = low_part t w (moment t es m).stack

  Through : ℕ → Type 0
  Through q = (m : ℕ) → p ≤ m → m ≤ q → Waits (moment t es m) w

  one_step : (m : ℕ) → Waits (moment t es m) w → Waits (moment t es (suc m)) w → Top (low m) a
      → Kept t w a (moment t es m).stack (moment t es (suc m)).stack
  unfolding moment
  one_step m u v b = low_after t (moment t es m) (moment t es m).stack (moment t es m).waiting w a (es m) (inv_moment t g es m) u b v

  forward : (q : ℕ) → p ≤ q → Through q → Top (low p) a → Top (low q) a
  unfolding Through Kept
  forward q l th b =
      le_ind (λ n. Through n → Top (low n) a)
      (λ _. b)
      (λ n l ih th.
      let top : Top (low n) a = ih (λ m x y. th m x (omega arith)) in
      ⊎_elim (λ x. x.1) (λ y. rw y top) (one_step n (th n l (omega arith)) (th (suc n) (omega arith) (le_refl _)) top))
      q l th

  backward : (q : ℕ) → p ≤ q → Through q → Top (low p) a → 0 < total (running_held (low q))
      → (m : ℕ) → p ≤ m → m ≤ q → 0 < total (running_held (low m))
  unfolding Through Kept
  backward q l th b h m x y =
      le_ind (λ n. Through n → 0 < total (running_held (low n)) → 0 < total (running_held (low m)))
      (λ _ h. h)
      (λ n y ih th h.
      let th' : Through n = λ m x y. th m x (omega arith) in
      let l : p ≤ n = le_trans x y in
      ih th' (⊎_elim (λ x. x.0) (λ y. rw y at h) (one_step n (th n l (omega arith)) (th (suc n) (omega arith) (le_refl _)) (forward n l th' b))))
      q y th h

-- ---- from the low part to the job

-- levels rise up the stack, so the low part's top is the only place of its job
low_held : (t : Table) (w a : Entry) (fs : List Started) → Sound t fs → Top (low_part t w fs) a
    → (level_at t a ≤ running_level t fs) × (units_held fs a.who ≡ total (running_held (low_part t w fs)))
unfolding units_held system_ceiling
low_held t w a [] s b = absurd (unfold low_part in b)
low_held t w a (f ∷ fs) s b =
    ⊎_elim
    (λ q.
    let z : f.entry ≡ a = rw (low_yes t w f fs q) at b in
    let e : eqb f.entry.who a.who ≡ true = eq-eqb _ _ (ap (λ (x : Entry). x.who) z) in
    (rw z (le_refl _), rw (low_yes t w f fs q, e)))
    (λ q.
    let r = low_held t w a fs s.1 (rw (low_no t w f fs q) at b) in
    let l : level_at t a < level_at t f.entry = omega (arith, s.0.above, r.0) in
    let d : eqb f.entry.who a.who ≡ false =
    ne_eqb _ _ (λ (z : f.entry.who ≡ a.who). let l' : level_at t a < level_at t a = rw z at l in omega arith) in
    (omega arith, rw (low_no t w f fs q, d) r.1))
    (cases_Bool (sooner t w f.entry))

low_runs : (t : Table) (w a : Entry) (fs : List Started) → Top fs a → sooner t w a ≡ true → low_part t w fs ≡ fs
low_runs t w a [] e l = absurd e
low_runs t w a (f ∷ fs) e l = low_yes t w f fs (rw e l)

same_top : (fs : List Started) (a b : Entry) → Top fs a → Top fs b → a ≡ b
same_top [] a b x y = absurd x
same_top (f ∷ fs) a b x y = sym x ∙ y

runs_holds : (t : Table) (s : State) (fs : List Started) (ks : List Entry) (w b : Entry) → Inv t (put s fs ks) → Among w ks → Top fs b
    → sooner t w b ≡ true → 0 < total (running_held fs)
runs_holds t s [] ks w b i m e l = absurd e
runs_holds t s (f ∷ fs) ks w b i m e l = passed_holds t s f fs ks w i m (rw e l)

-- ---- an event that starts a job leaves it with nothing held, so a stretch lies in one activation

start_empty : (t : Table) (s : State) (k : Entry) (ks : List Entry) (j : ℕ) (x : Bool) → is_job j (pick x (some k.who) none) ≡ true
    → units_held (pick x (with_start t s (k ∷ ks)) s).stack j ≡ 0
unfolding units_held
start_empty t s k ks j true h = rw h (total_zeros (resource_count t))
start_empty t s k ks j false h = absurd (false≢true h)

started_empty : (t : Table) (s : State) (e : Event) (j : ℕ) → is_job j (started_by t s e) ≡ true → units_held (after t s e).stack j ≡ 0
unfolding started_by starts_after after start_test
started_empty t s e j = go (change t s e) (eqb (refusal t s e) 0) (is_tested e) (change t s e).stack (change t s e).waiting
  where
    go : (u : State) (x y : Bool) (gs : List Started) (ws : List Entry) → is_job j (pick (x && y && starts t gs ws) (head_of ws) none) ≡ true
        → units_held (pick x (pick y (start_test t (put u gs ws)) (put u gs ws)) s).stack j ≡ 0
    go u false y gs ws h = absurd (false≢true h)
    go u true false gs ws h = absurd (false≢true h)
    go u true true gs [] h = unfold starts in absurd (false≢true h)
    go u true true gs (k ∷ ws) h = start_empty t (put u gs (k ∷ ws)) k ws j (starts t gs (k ∷ ws)) h

one_activation : (t : Table) (es : ℕ → Event) (j p q : ℕ) → p ≤ q → Stretch t es j p q → activation t es j p ≡ activation t es j q
unfolding activation moment
one_activation t es j p q l h =
    le_ind (λ n. Stretch t es j p n → activation t es j p ≡ activation t es j n)
    (λ _. refl)
    (λ n l ih h.
    let d : is_job j (started_by t (moment t es n) (es n)) ≡ false =
    false_from_ne_true _ (λ y. let v = started_empty t (moment t es n) (es n) j y in omega (arith, h (suc n) (omega arith) (le_refl _))) in
    rw (d, add-zero) (ih (λ m x y. h m x (omega arith))))
    q l h

-- ---- together

-- a and b, which run at the moments p and q, are one entry, in one activation of its job and in one stretch
pub record OneStretch (t : Table) (es : ℕ → Event) (p q : ℕ) (a b : Entry) : Type 0 where
  pub same : a ≡ b
  pub activated : activation t es a.who p ≡ activation t es a.who q
  pub holds : Stretch t es a.who p q

pub one_stretch : (t : Table) → table_refusal t ≡ 0 → (es : ℕ → Event) (w a b : Entry) (p q : ℕ) → p ≤ q
    → ((m : ℕ) → p ≤ m → m ≤ q → Waits (moment t es m) w)
    → Top (moment t es p).stack a → sooner t w a ≡ true
    → Top (moment t es q).stack b → sooner t w b ≡ true
    → OneStretch t es p q a b
unfolding Through
one_stretch t g es w a b p q l th ra la rb lb =
    let fs : List Started = (moment t es q).stack in
    let lp : Top (low t g es w a p p) a = rw (low_runs t w a (moment t es p).stack ra la) ra in
    let eq : low_part t w fs ≡ fs = low_runs t w b fs rb lb in
    let lq : Top (low t g es w a p q) a = forward t g es w a p q l th lp in
    let gq : 0 < total (running_held (low t g es w a p q)) =
    rw eq (runs_holds t (moment t es q) fs (moment t es q).waiting w b (inv_moment t g es q) (th q l (le_refl _)) rb lb) in
    let hs : Stretch t es a.who p q =
    λ m x y.
    rw (low_held t w a (moment t es m).stack (inv_moment t g es m).pre.sound
    (forward t g es w a p m x (λ k u v. th k u (le_trans v y)) lp)).1
    (backward t g es w a p q l th lp gq m x y) in
    record {
      same = same_top fs a b (rw eq at lq) rb;
      activated = one_activation t es a.who p q l hs;
      holds = hs;
    }
