-- What an accepted event of a well-formed state does is fair: this file alone of the proof names the events, and the rest goes by effects.
use Rattle.std.specs.Prelude.{◌≡◌, refl, Bool, true, false, not, List, [], ◌∷◌, ℕ, ◌+◌, ◌-◌, ◌≤◌, ◌<◌, get_or, set, leb, eqb}
use Rattle.std.proofs.Common.{true≢false, le_refl, arith, ltb-false, leb-false, eqb-true}
use Rattle.std.proofs.lemmas.Bool.{not-false, and_parts}
use Rattle.std.proofs.lemmas.List.{get_or-replicate}
use Rattle.rules.specs.Choice.{pick}
use Rattle.rules.specs.Counting.{total, every, none_above, contains}
use Rattle.rules.specs.Table.{Table, resource_count, job_of, need_of, units_of}
use Rattle.rules.specs.State.{Entry, Started, State, put, active_jobs, is_running, running_held, nothing_held, held_in, free_in}
use Rattle.rules.specs.Start.{start_test}
use Rattle.rules.specs.Events.{Event, arrive, acquire, release, finish, release_all, take_checks, checks, refusal}
use Rattle.rules.specs.Events.{Effect, enter, hold, leave, take, give, effect, change, is_tested, after}
use Rattle.rules.proofs.Choices.{pick_case, Stop, stopped}
use Rattle.rules.proofs.Counts.{at_set, none_above_at, none_above-set, none_above_zeros}
use Rattle.rules.proofs.Tables.{Good, good_table}
use Rattle.rules.proofs.Order.{Live}
use Rattle.rules.proofs.Well.{Well, Everyone, live_all, held_units}

-- ---- what is asked of an effect

-- of a job that comes in: at its arrival it is live, the active ones stay so, and it is not one of them
pub record Joins (t : Table) (s : State) (e : Entry) : Type 0 where
  pub new : Live t s e
  pub old : Everyone (Live t s) s
  pub alone : contains e.who (active_jobs s) ≡ false

-- of new holdings of the running job: within its need, within the units, and, if no start test follows, no fewer
pub record Refit (t : Table) (f : Started) (fs : List Started) (b : Bool) (h : List ℕ) : Type 0 where
  pub needs : none_above (job_of t f.entry.who).needs h ≡ true
  pub units : (r : ℕ) → r < resource_count t → get_or h r 0 + held_in fs r ≤ units_of t r
  pub more : b ≡ false → (r : ℕ) → get_or f.held r 0 ≤ get_or h r 0

abbrev pub RefitTop : Table → List Started → Bool → List ℕ → Type 0
RefitTop t [] b h = Unit {0}
RefitTop t (f ∷ fs) b h = Refit t f fs b h

-- b says if the start test follows it
abbrev pub Fair : Table → State → Bool → Effect → Type 0
Fair t s b (enter e) = Joins t s e × (b ≡ true)
Fair t s b (hold h) = RefitTop t s.stack b h
Fair t s b leave = (total (running_held s.stack) ≡ 0) × (b ≡ true)

-- ---- the holdings

module _ (t : Table) (s : State) (f : Started) (fs : List Started) (ks : List Entry) (w : Well t (put s (f ∷ fs) ks)) where
  top_needs : none_above (job_of t f.entry.who).needs f.held ≡ true
  unfolding every
  top_needs = (and_parts _ _ w.needs).0

  top_units : (r : ℕ) → r < resource_count t → get_or f.held r 0 + held_in fs r ≤ units_of t r
  unfolding held_in
  top_units r l = held_units t (put s (f ∷ fs) ks) w r l

  -- one resource's units set anew
  refit : (b : Bool) (r v : ℕ) → v ≤ need_of t f.entry.who r → v + held_in fs r ≤ units_of t r → (b ≡ false → get_or f.held r 0 ≤ v)
      → Refit t f fs b (set f.held r v)
  refit b r v l u m =
      record {
        needs = none_above-set (job_of t f.entry.who).needs f.held r v top_needs l;
        units = λ k h. at_set (λ x. x + held_in fs k ≤ units_of t k) f.held r v k (λ e. rw e u) (top_units k h);
        more = λ e k. at_set (λ x. get_or f.held k 0 ≤ x) f.held r v k (λ q. rw q (m e)) (le_refl _);
      }

-- whatever takes within the need and the free units is fair
take_fair : (t : Table) (s : State) (fs : List Started) (ks : List Entry) → Well t (put s fs ks) → (j r n : ℕ) → not (is_running fs j) ≡ false
    → leb (resource_count t) r ≡ false → Stop 0 (take_checks t (put s fs ks) j r n) → Fair t (put s fs ks) false (take (put s fs ks) r n)
unfolding held_in
take_fair t s [] ks w j r n h i c = tt
take_fair t s (f ∷ fs) ks w j r n h i c =
    let q : f.entry.who ≡ j = eqb-true _ _ (not-false _ h) in
    let k : n ≤ free_in t (f ∷ fs) r = ltb-false (free_in t (f ∷ fs) r) n c.1.0 in
    refit t s f fs ks w false r _ (rw q (ltb-false _ _ c.0)) (omega (arith, top_units t s f fs ks w r (leb-false _ _ i))) (λ _. omega arith)

-- whatever gives back is fair
give_fair : (t : Table) (s : State) (fs : List Started) (ks : List Entry) → Well t (put s fs ks) → (r n : ℕ) → leb (resource_count t) r ≡ false
    → Fair t (put s fs ks) true (give (put s fs ks) r n)
give_fair t s [] ks w r n h = tt
give_fair t s (f ∷ fs) ks w r n h =
    let m = none_above_at (job_of t f.entry.who).needs f.held (top_needs t s f fs ks w) r in
    refit t s f fs ks w true r (get_or f.held r 0 - n) (omega (arith, m)) (omega (arith, top_units t s f fs ks w r (leb-false _ _ h)))
    (λ y. absurd (true≢false y))

-- giving back everything is fair
all_fair : (t : Table) (s : State) (fs : List Started) (ks : List Entry) → Well t (put s fs ks) → Fair t (put s fs ks) true (hold (nothing_held t))
all_fair t s [] ks w = tt
all_fair t s (f ∷ fs) ks w =
    let g : Good t = good_table t w.table in
    let l = (live_all t (put s (f ∷ fs) ks) w).0.0.listed in
    record {
      needs = none_above_zeros (job_of t f.entry.who).needs (resource_count t) (g.full f.entry.who l);
      units = λ r h. rw (get_or-replicate {A = ℕ} (resource_count t) r 0 0 h) (omega (arith, top_units t s f fs ks w r h));
      more = λ y. absurd (true≢false y);
    }

-- ---- the events, by name

pub fair : (t : Table) (s : State) (fs : List Started) (ks : List Entry) → Well t (put s fs ks) → (e : Event) → refusal t (put s fs ks) e ≡ 0
    → Fair t (put s fs ks) (is_tested e) (effect t (put s fs ks) e)
unfolding refusal
fair t s fs ks w (arrive j) h =
    let st : Stop 0 (checks t (put s fs ks) (arrive j)) = stopped 0 _ h in
    (record { new = record { listed = leb-false _ _ st.0 }; old = live_all t (put s fs ks) w; alone = st.1.0 }, refl)
fair t s fs ks w (acquire j r n) h =
    let st = stopped 0 (checks t (put s fs ks) (acquire j r n)) h in
    take_fair t s fs ks w j r n st.1.0 st.1.1.0 st.1.1.1.1
fair t s fs ks w (release j r n) h = give_fair t s fs ks w r n (stopped 0 (checks t (put s fs ks) (release j r n)) h).1.1.0
fair t s fs ks w (finish j) h =
    let l : total (running_held fs) ≤ 0 = ltb-false _ _ (stopped 0 _ h).1.1.0 in
    (omega arith, refl)
fair t s fs ks w (release_all j) h = all_fair t s fs ks w

-- ---- the state after an event, accepted or refused

pub after_case : (P : State → Type 0) (t : Table) (s : State) (e : Event)
    → (refusal t s e ≡ 0 → P (pick (is_tested e) (start_test t (change t s e)) (change t s e))) → P s → P (after t s e)
unfolding after
after_case P t s e h k = pick_case P (eqb (refusal t s e) 0) _ _ (λ q. h (eqb-true _ _ q)) (λ q. k)
