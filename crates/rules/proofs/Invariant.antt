-- What every moment keeps besides being well formed: each started job would pass the start test on the stack below it, and the head does
-- not pass it now. Of the order only the four laws are used, and of events only what they do.
use Rattle.std.specs.Prelude.{◌≡◌, refl, Bool, true, false, List, [], ◌∷◌, ℕ, zero, suc, ◌+◌, ◌≤◌, ◌<◌, get_or}
use Rattle.std.proofs.Common.{sym, ◌∙◌, true≢false, arith, ltb-true}
use Rattle.std.proofs.lemmas.Bool.{false≢true, and_parts}
use Rattle.std.proofs.lemmas.Bool.Decides.{nat_tests}
use Rattle.std.proofs.Math.Bool.{and-false}
use Rattle.rules.specs.Choice.{pick}
use Rattle.rules.specs.Table.{Table, job_count, resource_count, need_of, table_refusal}
use Rattle.rules.specs.State.{Entry, Started, State, put, level_at, held_in, free_in}
use Rattle.rules.specs.Ceilings.{system_ceiling}
use Rattle.rules.specs.Waiting.{sooner, insert}
use Rattle.rules.specs.Start.{starts, newly_started, start_test}
use Rattle.rules.specs.Events.{Event, Effect, enter, hold, leave, effect, with_held, applied, is_tested, after}
use Rattle.rules.specs.Run.{moment}
use Rattle.rules.proofs.Choices.{pick_case}
use Rattle.rules.proofs.Tables.{Good, good_table}
use Rattle.rules.proofs.Ceilings.{need_le, le_resource_ceiling, resource_ceiling_mono}
use Rattle.rules.proofs.Order.{Live, sooner_asym, sooner_behind, sooner_level, sooner_top, starts_is}
use Rattle.rules.proofs.Well.{Well, All, all_map, all_zip}
use Rattle.rules.proofs.Accepted.{Fair, fair, after_case}
use Rattle.rules.proofs.Kept.{well_applied, well_push, well_fresh}

-- ---- the invariant

-- a started job would pass the start test on the stack below it
pub record Placed (t : Table) (f : Started) (fs : List Started) : Type 0 where
  pub above : system_ceiling t fs < level_at t f.entry
  pub over : sooner_top t f.entry fs ≡ true

abbrev pub Sound : Table → List Started → Type 0
Sound t [] = Unit {0}
Sound t (f ∷ fs) = Placed t f fs × Sound t fs

-- nobody waiting is sooner than one nearer the head
abbrev pub Falling : Table → List Entry → Type 0
Falling t [] = Unit {0}
Falling t (k ∷ ks) = All (λ w. sooner t w k ≡ false) ks × Falling t ks

-- a waiting entry that is sooner than a started one has the higher level
abbrev pub Rises : Table → Started → Entry → Type 0
Rises t f w = sooner t w f.entry ≡ true → level_at t f.entry < level_at t w

-- before the start test
pub record Pre (t : Table) (s : State) : Type 0 where
  pub well : Well t s
  pub sound : Sound t s.stack
  pub falling : Falling t s.waiting
  pub rises : All (λ f. All (Rises t f) s.waiting) s.stack

-- at a moment
pub record Inv (t : Table) (s : State) : Type 0 where
  pub pre : Pre t s
  pub back : starts t s.stack s.waiting ≡ false

-- ---- room

-- the need of a placed job fits into what the stack below it leaves free
room : (t : Table) (f : Started) (fs : List Started) → f.entry.who < job_count t → Placed t f fs → (r : ℕ) → r < resource_count t
    → need_of t f.entry.who r ≤ free_in t fs r
unfolding system_ceiling
room t f fs j p r l = need_le t r (free_in t fs r) f.entry.who j (grind (arith, p.above, le_resource_ceiling t fs r l))

-- what a placed job may still take of a resource is free
pub spare : (t : Table) (f : Started) (fs : List Started) → f.entry.who < job_count t → Placed t f fs → (r n : ℕ) → r < resource_count t
    → get_or f.held r 0 + n ≤ need_of t f.entry.who r → n ≤ free_in t (f ∷ fs) r
unfolding held_in
spare t f fs j p r n l h = omega (arith, room t f fs j p r l)

-- ---- an effect

all_insert : (P : Entry → Type 0) (t : Table) (e : Entry) (ks : List Entry) → P e → All P ks → All P (insert t e ks)
unfolding insert
all_insert P t e [] h m = (h, tt)
all_insert P t e (k ∷ ks) h m = pick_case (All P) (sooner t e k) _ _ (λ _. (h, m)) (λ _. (m.0, all_insert P t e ks h m.1))

falling_insert : (t : Table) → Good t → (s : State) (e : Entry) (ks : List Entry) → Live t s e → All (Live t s) ks → Falling t ks → Falling t (insert t e ks)
unfolding insert
falling_insert t g s e [] l ls m = (tt, tt)
falling_insert t g s e (k ∷ ks) l ls m =
    pick_case (Falling t) (sooner t e k) _ _
    (λ h.
    let b : sooner t k e ≡ false = sooner_asym t g s e k l ls.0 h in (
      (
        b,
        all_zip (Live t s) (λ w. sooner t w k ≡ false) (λ w. sooner t w e ≡ false)
            (λ w x y. sooner_behind t g s e k w l ls.0 x b y) ks ls.1 m.0,
      ),
      m,
    ))
    (λ h. (all_insert (λ w. sooner t w k ≡ false) t e ks h m.0, falling_insert t g s e ks l ls.1 m.1))

pub pre_applied : (t : Table) (s : State) (fs : List Started) (ks : List Entry) → Pre t (put s fs ks) → (b : Bool) (x : Effect) → Fair t (put s fs ks) b x
    → Pre t (applied t (put s fs ks) x)
unfolding applied
pre_applied t s fs ks p b (enter e) h =
    let g : Good t = good_table t p.well.table in
    record {
      well = well_applied t s fs ks b (enter e) h p.well;
      sound = p.sound;
      falling = falling_insert t g s e ks h.0.new h.0.old.1 p.falling;
      rises =
          all_zip (λ f. Live t s f.entry) (λ f. All (Rises t f) ks) (λ f. All (Rises t f) (insert t e ks))
          (λ f l m. all_insert (Rises t f) t e ks (sooner_level t g s e f.entry h.0.new l) m)
          fs h.0.old.0 p.rises;
    }
pre_applied t s [] ks p b (hold h) k = p
pre_applied t s (f ∷ fs) ks p b (hold h) k =
    record {
      well = well_applied t s (f ∷ fs) ks b (hold h) k p.well;
      sound = (record { above = p.sound.0.above; over = p.sound.0.over }, p.sound.1);
      falling = p.falling;
      rises = (p.rises.0, p.rises.1);
    }
pre_applied t s [] ks p b leave h = p
pre_applied t s (f ∷ fs) ks p b leave h =
    record { well = well_applied t s (f ∷ fs) ks b leave h p.well; sound = p.sound.1; falling = p.falling; rises = p.rises.1 }

-- ---- the start test

-- after the head has started, the next does not
started_not : (t : Table) (f : Started) (fs : List Started) (ks : List Entry) → All (λ w. sooner t w f.entry ≡ false) ks → starts t (f ∷ fs) ks ≡ false
started_not t f fs [] m = unfold starts in refl
started_not t f fs (h ∷ hs) m = rw (starts_is t (f ∷ fs) h hs, m.0, and-false)

pushed : (t : Table) (s : State) (fs : List Started) (k : Entry) (ks : List Entry) → Pre t (put s fs (k ∷ ks)) → starts t fs (k ∷ ks) ≡ true
    → Well t (put s (newly_started t k ∷ fs) ks) → Inv t (put s (newly_started t k ∷ fs) ks)
pushed t s fs k ks p e w =
    let y = and_parts _ _ (sym (starts_is t fs k ks) ∙ e) in
    record {
      pre =
          record {
            well = w;
            sound = (record { above = ltb-true _ _ y.0; over = y.1 }, p.sound);
            falling = p.falling.1;
            rises = (
              all_map (λ w. sooner t w k ≡ false) (Rises t (newly_started t k)) (λ w n y. absurd (true≢false (sym y ∙ n))) ks p.falling.0,
              all_map (λ f. All (Rises t f) (k ∷ ks)) (λ f. All (Rises t f) ks) (λ f m. m.1) fs p.rises,
            );
          };
      back = started_not t (newly_started t k) fs ks p.falling.0;
    }

start_inv : (t : Table) (s : State) (fs : List Started) (ks : List Entry) → Pre t (put s fs ks) → Inv t (start_test t (put s fs ks))
start_inv t s fs [] p = unfold start_test starts in record { pre = p; back = refl }
start_inv t s fs (k ∷ ks) p =
    unfold start_test in pick_case (Inv t) (starts t fs (k ∷ ks)) _ _
    (λ e. pushed t s fs k ks p e (well_push t s fs k ks e p.well))
    (λ e. record { pre = p; back = e })

-- ---- no start test

-- more held: no lower ceiling, so nothing starts that did not
ceiling_held : (t : Table) (f : Started) (fs : List Started) (h : List ℕ)
    → ((r : ℕ) → get_or f.held r 0 ≤ get_or h r 0) → system_ceiling t (f ∷ fs) ≤ system_ceiling t (with_held (f ∷ fs) h)
unfolding system_ceiling held_in
ceiling_held t f fs h m = grind (arith, resource_ceiling_mono t (f ∷ fs) (with_held (f ∷ fs) h) (λ r l. omega (arith, m r)))

no_start : (t : Table) (f : Started) (fs : List Started) (h : List ℕ) (ks : List Entry) → system_ceiling t (f ∷ fs) ≤ system_ceiling t (with_held (f ∷ fs) h)
    → starts t (f ∷ fs) ks ≡ false → starts t (with_held (f ∷ fs) h) ks ≡ false
no_start t f fs h [] l e = unfold starts in refl
no_start t f fs h (k ∷ ks) l e = rw (starts_is t (with_held (f ∷ fs) h) k ks) (grind (arith, nat_tests, starts_is t (f ∷ fs) k ks))

-- ---- an event, and every moment

settle : (t : Table) (s : State) (fs : List Started) (ks : List Entry) → Inv t (put s fs ks) → (b : Bool) (x : Effect) → Fair t (put s fs ks) b x
    → Inv t (pick b (start_test t (applied t (put s fs ks) x)) (applied t (put s fs ks) x))
settle t s fs ks i true x h = start_inv t (applied t (put s fs ks) x) _ _ (pre_applied t s fs ks i.pre true x h)
settle t s fs ks i false (enter e) h = absurd (false≢true h.1)
settle t s fs ks i false leave h = absurd (false≢true h.1)
settle t s [] ks i false (hold y) h = unfold applied in i
settle t s (f ∷ fs) ks i false (hold y) h =
    record {
      pre = pre_applied t s (f ∷ fs) ks i.pre false (hold y) h;
      back = unfold applied in no_start t f fs y ks (ceiling_held t f fs y (h.more refl)) i.back;
    }

inv_after : (t : Table) (s : State) (e : Event) → Inv t s → Inv t (after t s e)
inv_after t s e i =
    after_case (Inv t) t s e
    (λ q. settle t s s.stack s.waiting i (is_tested e) (effect t s e) (fair t s s.stack s.waiting i.pre.well e q))
    i

pub inv_moment : (t : Table) → table_refusal t ≡ 0 → (es : ℕ → Event) (m : ℕ) → Inv t (moment t es m)
unfolding moment starts
inv_moment t h es zero = record { pre = record { well = well_fresh t h; sound = tt; falling = tt; rises = tt }; back = refl }
inv_moment t h es (suc m) = inv_after t (moment t es m) (es m) (inv_moment t h es m)
