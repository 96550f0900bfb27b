-- Every event keeps a state well formed, a hand-made one too; so every moment is well formed.
use Rattle.std.specs.Prelude.{◌≡◌, refl, Bool, true, false, not, List, [], ◌∷◌, ◌++◌, ℕ, zero, suc, ◌≤◌, ◌<◌, ltb, leb}
use Rattle.std.proofs.Common.{sym, ap, ◌∙◌, append_assoc, arith, lt-ltb, le-leb}
use Rattle.std.proofs.lemmas.Bool.{and_parts, and_from}
use Rattle.std.proofs.lemmas.Bool.Decides.{nat_tests}
use Rattle.rules.specs.Counting.{every, each_once}
use Rattle.rules.specs.Table.{Table, job_count, resource_count, job_of, units_of, table_refusal}
use Rattle.rules.specs.State.{Entry, Started, State, fresh, put, started_jobs, waiting_jobs, held_in}
use Rattle.rules.specs.Ceilings.{system_ceiling}
use Rattle.rules.specs.Waiting.{sooner, insert}
use Rattle.rules.specs.Start.{starts, newly_started, start_test}
use Rattle.rules.specs.Events.{Event, Effect, enter, hold, leave, effect, applied, change, is_tested, refusal, after}
use Rattle.rules.specs.Run.{moment}
use Rattle.rules.specs.WellFormed.{levels_rise, next_behind, in_order, within_units, well_formed}
use Rattle.rules.proofs.Choices.{pick_case}
use Rattle.rules.proofs.Counts.{every_below_make, every_move, none_above_zeros, once_move, zeros_at}
use Rattle.rules.proofs.Tables.{Good, good_table}
use Rattle.rules.proofs.Order.{Live, sooner_asym, starts_is}
use Rattle.rules.proofs.Well.{Well, well_parts, well_formed_lem, All, live_all, held_units}
use Rattle.rules.proofs.Accepted.{Fair, fair, after_case}

-- ---- a job comes in

-- where it goes: so many stand before it, the others behind it
record Between (before : List ℕ) (j : ℕ) (after : List ℕ) : Type 0 where
  front : List ℕ
  back : List ℕ
  were : before ≡ front ++ back
  are : after ≡ front ++ j ∷ back

between : (t : Table) (e : Entry) (ks : List Entry) → Between (waiting_jobs ks) e.who (waiting_jobs (insert t e ks))
unfolding insert
between t e [] = record { front = []; back = []; were = refl; are = refl }
between t e (k ∷ ks) =
    pick_case (λ (l : List Entry). Between (waiting_jobs (k ∷ ks)) e.who (waiting_jobs l)) (sooner t e k) _ _
    (λ _. record { front = []; back = waiting_jobs (k ∷ ks); were = refl; are = refl })
    (λ _.
    let b = between t e ks in
    record {
      front = k.who ∷ b.front;
      back = b.back;
      were = ap (λ (l : List ℕ). k.who ∷ l) b.were;
      are = ap (λ (l : List ℕ). k.who ∷ l) b.are;
    })

-- whatever goes by who is active, and not by where, says the same of the job and the others
active_insert : (F : List ℕ → Bool) → ((xs : List ℕ) (y : ℕ) (ys : List ℕ) → F (xs ++ y ∷ ys) ≡ F (y ∷ xs ++ ys))
    → (t : Table) (e : Entry) (js : List ℕ) (ks : List Entry) → F (js ++ waiting_jobs (insert t e ks)) ≡ F (e.who ∷ js ++ waiting_jobs ks)
active_insert F move t e js ks =
    let b = between t e ks in
    ap (λ (l : List ℕ). F (js ++ l)) b.are
    ∙ ap F (sym (append_assoc js b.front (e.who ∷ b.back)))
    ∙ move (js ++ b.front) e.who b.back
    ∙ ap (λ (l : List ℕ). F (e.who ∷ l)) (append_assoc js b.front b.back ∙ ap (λ (l : List ℕ). js ++ l) (sym b.were))

-- whoever stands right behind k after an arrival stood there, or is the one that arrived
next_insert : (t : Table) (k e : Entry) (ks : List Entry) → sooner t e k ≡ false → next_behind t k ks ≡ true → next_behind t k (insert t e ks) ≡ true
unfolding insert
next_insert t k e [] h n = ap not h
next_insert t k e (w ∷ ws) h n = pick_case (λ (l : List Entry). next_behind t k l ≡ true) (sooner t e w) _ _ (λ _. ap not h) (λ _. n)

order_insert : (t : Table) → Good t → (s : State) (e : Entry) (ks : List Entry) → Live t s e → All (Live t s) ks → in_order t ks ≡ true
    → in_order t (insert t e ks) ≡ true
unfolding insert in_order
order_insert t g s e [] l ls h = refl
order_insert t g s e (k ∷ ks) l ls h =
    let p = and_parts _ _ h in
    pick_case (λ (l : List Entry). in_order t l ≡ true) (sooner t e k) _ _
    (λ q. and_from _ _ (ap not (sooner_asym t g s e k l ls.0 q)) h)
    (λ q. and_from _ _ (next_insert t k e ks q p.0) (order_insert t g s e ks l ls.1 p.1))

-- ---- an effect

units_within : (t : Table) (fs : List Started) → ((r : ℕ) → r < resource_count t → held_in fs r ≤ units_of t r) → within_units t fs ≡ true
units_within t fs h = every_below_make (resource_count t) (λ r. leb (held_in fs r) (units_of t r)) (λ r l. le-leb _ _ (h r l))

module _ (t : Table) (s : State) where
  abbrev known : ℕ → Bool
  known j = ltb j (job_count t)

  well_enter : (fs : List Started) (ks : List Entry) (e : Entry) (b : Bool) → Fair t (put s fs ks) b (enter e) → Well t (put s fs ks)
      → Well t (put s fs (insert t e ks))
  unfolding every each_once
  well_enter fs ks e b h w =
      record {
        table = w.table;
        listed =
            active_insert (every known) (every_move known) t e (started_jobs fs) ks
            ∙ and_from _ _ (lt-ltb _ _ h.0.new.listed) w.listed;
        once = active_insert each_once once_move t e (started_jobs fs) ks ∙ and_from _ _ (ap not h.0.alone) w.once;
        rising = w.rising;
        order = order_insert t (good_table t w.table) s e ks h.0.new h.0.old.1 w.order;
        needs = w.needs;
        units = w.units;
      }

  well_hold : (f : Started) (fs : List Started) (ks : List Entry) (h : List ℕ) (b : Bool) → Fair t (put s (f ∷ fs) ks) b (hold h)
      → Well t (put s (f ∷ fs) ks) → Well t (put s (record { entry = f.entry; held = h } ∷ fs) ks)
  unfolding every levels_rise held_in
  well_hold f fs ks h b k w =
      record {
        table = w.table;
        listed = w.listed;
        once = w.once;
        rising = w.rising;
        order = w.order;
        needs = and_from _ _ k.needs (and_parts _ _ w.needs).1;
        units = units_within t (record { entry = f.entry; held = h } ∷ fs) k.units;
      }

  well_leave : (f : Started) (fs : List Started) (ks : List Entry) → Well t (put s (f ∷ fs) ks) → Well t (put s fs ks)
  unfolding every each_once levels_rise held_in
  well_leave f fs ks w =
      let js = started_jobs fs ++ waiting_jobs ks in
      record {
        table = w.table;
        listed = (and_parts _ _ w.listed).1;
        once = (and_parts _ _ w.once).1;
        rising = (and_parts _ _ w.rising).1;
        order = w.order;
        needs = (and_parts _ _ w.needs).1;
        units = units_within t fs (λ r l. let u = held_units t (put s (f ∷ fs) ks) w r l in omega (arith, u));
      }

pub well_applied : (t : Table) (s : State) (fs : List Started) (ks : List Entry) (b : Bool) (x : Effect) → Fair t (put s fs ks) b x
    → Well t (put s fs ks) → Well t (applied t (put s fs ks) x)
unfolding applied
well_applied t s fs ks b (enter e) h w = well_enter t s fs ks e b h w
well_applied t s [] ks b (hold y) h w = w
well_applied t s (f ∷ fs) ks b (hold y) h w = well_hold t s f fs ks y b h w
well_applied t s [] ks b leave h w = w
well_applied t s (f ∷ fs) ks b leave h w = well_leave t s f fs ks w

-- ---- the start test

pub well_push : (t : Table) (s : State) (fs : List Started) (k : Entry) (ks : List Entry) → starts t fs (k ∷ ks) ≡ true
    → Well t (put s fs (k ∷ ks)) → Well t (put s (newly_started t k ∷ fs) ks)
unfolding every each_once levels_rise in_order held_in system_ceiling
well_push t s fs k ks e w =
    let g : Good t = good_table t w.table in
    let l = (live_all t (put s fs (k ∷ ks)) w).1.0.listed in
    record {
      table = w.table;
      listed = sym (every_move (λ j. ltb j (job_count t)) (started_jobs fs) k.who (waiting_jobs ks)) ∙ w.listed;
      once = sym (once_move (started_jobs fs) k.who (waiting_jobs ks)) ∙ w.once;
      rising = grind (arith, nat_tests, w.rising, starts_is t fs k ks);
      order = (and_parts _ _ w.order).1;
      needs = and_from _ _ (none_above_zeros (job_of t k.who).needs (resource_count t) (g.full k.who l)) w.needs;
      units =
          units_within t (newly_started t k ∷ fs)
          (λ r m. let u = held_units t (put s fs (k ∷ ks)) w r m in omega (arith, u, zeros_at (resource_count t) r));
    }

pub well_start : (t : Table) (s : State) (fs : List Started) (ks : List Entry) → Well t (put s fs ks) → Well t (start_test t (put s fs ks))
unfolding start_test
well_start t s fs [] w = pick_case (Well t) (starts t fs []) _ _ (λ _. w) (λ _. w)
well_start t s fs (k ∷ ks) w = pick_case (Well t) (starts t fs (k ∷ ks)) _ _ (λ e. well_push t s fs k ks e w) (λ _. w)

-- ---- an event, and every moment

-- an accepted event, before its start test
pub well_change : (t : Table) (s : State) (e : Event) → refusal t s e ≡ 0 → Well t s → Well t (change t s e)
well_change t s e q w = well_applied t s s.stack s.waiting (is_tested e) (effect t s e) (fair t s s.stack s.waiting w e q) w

pub well_after : (t : Table) (s : State) (e : Event) → Well t s → Well t (after t s e)
well_after t s e w =
    after_case (Well t) t s e
    (λ q.
    let x : State = change t s e in
    let c : Well t x = well_change t s e q w in
    pick_case (Well t) (is_tested e) _ _ (λ _. well_start t x x.stack x.waiting c) (λ _. c))
    w

pub well_fresh : (t : Table) → table_refusal t ≡ 0 → Well t fresh
unfolding every each_once levels_rise in_order held_in
well_fresh t h =
    record { table = h; listed = refl; once = refl; rising = refl; order = refl; needs = refl; units = units_within t [] (λ r l. omega arith) }

pub well_moment : (t : Table) → table_refusal t ≡ 0 → (es : ℕ → Event) (m : ℕ) → Well t (moment t es m)
unfolding moment
well_moment t h es zero = well_fresh t h
well_moment t h es (suc m) = well_after t (moment t es m) (es m) (well_moment t h es m)

-- the two as the test says them
pub after_well_formed : (t : Table) (s : State) (e : Event) → well_formed t s ≡ true → well_formed t (after t s e) ≡ true
after_well_formed t s e h = well_formed_lem t (after t s e) (well_after t s e (well_parts t s h))

pub every_moment_well_formed : (t : Table) → table_refusal t ≡ 0 → (es : ℕ → Event) (m : ℕ) → well_formed t (moment t es m) ≡ true
every_moment_well_formed t h es m = well_formed_lem t (moment t es m) (well_moment t h es m)
