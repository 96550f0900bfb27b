-- Demand 3 (a): 18 is never met, since what a started job needs is free; and (c): no job waits while the stack is empty.
use Rattle.std.specs.Prelude.{◌≡◌, refl, ◌≢◌, true, false, not, List, [], ◌∷◌, ℕ, ◌+◌, ◌≤◌, get_or, ltb, leb}
use Rattle.std.proofs.Common.{subst, ⊎_elim, true≢false, arith, ltb-true, ltb-false, leb-false, eqb-true}
use Rattle.std.proofs.lemmas.Bool.{not-false}
use Rattle.std.proofs.lemmas.Bool.Decides.{nat_tests}
use Rattle.rules.specs.Table.{Table, resource_count, need_of, table_refusal}
use Rattle.rules.specs.State.{Entry, Started, State, put, is_running, free_in}
use Rattle.rules.specs.Ceilings.{resource_ceiling, system_ceiling}
use Rattle.rules.specs.Events.{Event, arrive, acquire, release, finish, release_all, take_checks, checks, refusal}
use Rattle.rules.specs.Run.{moment}
use Rattle.rules.proofs.Choices.{Stop, stopped}
use Rattle.rules.proofs.Ceilings.{resource_ceiling_zero}
use Rattle.rules.proofs.Tables.{Good, good_table}
use Rattle.rules.proofs.Order.{starts_is}
use Rattle.rules.proofs.Well.{live_all}
use Rattle.rules.proofs.Invariant.{Pre, Inv, spare, inv_moment}

-- ---- (a)

take_18 : (t : Table) (s : State) (fs : List Started) (ks : List Entry) → Pre t (put s fs ks) → (j r n : ℕ) → not (is_running fs j) ≡ false
    → leb (resource_count t) r ≡ false → Stop 18 (take_checks t (put s fs ks) j r n) → ⊥
take_18 t s [] ks p j r n h l c = true≢false h
take_18 t s (f ∷ fs) ks p j r n h l c = ⊎_elim (λ e. short e) (λ x. x.1) c.1
  where
    short : ltb (free_in t (f ∷ fs) r) n ≡ true → ⊥
    short e =
        let q : f.entry.who ≡ j = eqb-true _ _ (not-false _ h) in
        let w : get_or f.held r 0 + n ≤ need_of t f.entry.who r = rw q (ltb-false _ _ c.0) in
        let i = (live_all t (put s (f ∷ fs) ks) p.well).0.0.listed in
        omega (arith, ltb-true (free_in t (f ∷ fs) r) n e, spare t f fs i p.sound.0 r n (leb-false _ _ l) w)

never_18 : (t : Table) (s : State) (fs : List Started) (ks : List Entry) → Pre t (put s fs ks) → (e : Event) → refusal t (put s fs ks) e ≡ 18 → ⊥
unfolding refusal
never_18 t s fs ks p (arrive j) h = (stopped 18 _ h).1.1
never_18 t s fs ks p (release j r n) h = (stopped 18 _ h).1.1.1.1.1
never_18 t s fs ks p (finish j) h = (stopped 18 _ h).1.1.1
never_18 t s fs ks p (release_all j) h = (stopped 18 _ h).1.1.1
never_18 t s fs ks p (acquire j r n) h =
    let st = stopped 18 (checks t (put s fs ks) (acquire j r n)) h in
    take_18 t s fs ks p j r n st.1.0 st.1.1.0 st.1.1.1.1

pub enough : (t : Table) → table_refusal t ≡ 0 → (es : ℕ → Event) (m : ℕ) (e : Event) → refusal t (moment t es m) e ≢ 18
enough t g es m e = never_18 t (moment t es m) (moment t es m).stack (moment t es m).waiting (inv_moment t g es m).pre e

-- ---- (c)

idle : (t : Table) (s : State) (ks : List Entry) → Inv t (put s [] ks) → ks ≡ []
unfolding system_ceiling
idle t s [] i = refl
idle t s (k ∷ ks) i =
    let g : Good t = good_table t i.pre.well.table in
    let m : resource_ceiling t [] ≤ 0 = resource_ceiling_zero t g in
    absurd (grind (arith, nat_tests, i.back, starts_is t [] k ks, g.positive k.who (live_all t (put s [] (k ∷ ks)) i.pre.well).1.0.listed))

pub never_idle : (t : Table) → table_refusal t ≡ 0 → (es : ℕ → Event) (m : ℕ) → (moment t es m).stack ≡ [] → (moment t es m).waiting ≡ []
never_idle t g es m e =
    idle t (moment t es m) (moment t es m).waiting
    (subst (λ (fs : List Started). Inv t (put (moment t es m) fs (moment t es m).waiting)) e (inv_moment t g es m))
