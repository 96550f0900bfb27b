-- Each job is active at most once, so a job that waits throughout is one entry throughout.
use Rattle.std.specs.Prelude.{◌≡◌, refl, true, false, List, [], ◌∷◌, ◌++◌, ℕ, suc, ◌≤◌}
use Rattle.std.proofs.Common.{inl, inr, ⊎_elim, le_refl, arith, eqb-true}
use Rattle.std.proofs.lemmas.Bool.{false≢true, both_ways, or_cases}
use Rattle.std.proofs.Math.Decide.{le_ind}
use Rattle.rules.specs.Counting.{contains}
use Rattle.rules.specs.Table.{Table, table_refusal}
use Rattle.rules.specs.State.{Entry, Started, State, put, started_jobs, waiting_jobs}
use Rattle.rules.specs.Waiting.{sooner, insert}
use Rattle.rules.specs.Start.{starts, start_test}
use Rattle.rules.specs.Events.{Event, Effect, enter, hold, leave, effect, applied, change, is_tested, after}
use Rattle.rules.specs.Run.{moment}
use Rattle.rules.specs.WellFormed.{none_twice}
use Rattle.rules.specs.Demand3.{is_waiting, WaitsThrough}
use Rattle.rules.proofs.Choices.{pick_case}
use Rattle.rules.proofs.Counts.{contains-append, once_move, once_first}
use Rattle.rules.proofs.Well.{Well}
use Rattle.rules.proofs.Accepted.{after_case}
use Rattle.rules.proofs.Kept.{well_change, well_moment}
use Rattle.rules.proofs.Stretches.{Among, Waits}

-- ---- what waits and whose job still waits after an event, waits still

among_insert : (t : Table) (e w : Entry) (ks : List Entry) → Among w ks → Among w (insert t e ks)
unfolding insert
among_insert t e w [] m = absurd m
among_insert t e w (k ∷ ks) (inl q) = pick_case (Among w) (sooner t e k) _ _ (λ _. inr (inl q)) (λ _. inl q)
among_insert t e w (k ∷ ks) (inr m) = pick_case (Among w) (sooner t e k) _ _ (λ _. inr (inr m)) (λ _. inr (among_insert t e w ks m))

among_applied : (t : Table) (s : State) (x : Effect) (w : Entry) → Waits s w → Waits (applied t s x) w
unfolding applied
among_applied t s (enter e) w m = among_insert t e w s.waiting m
among_applied t s (hold h) w m = m
among_applied t s leave w m = m

still_start : (t : Table) (s : State) (fs : List Started) (ks : List Entry) (w : Entry) → none_twice (put s fs ks) ≡ true → Among w ks
    → is_waiting (start_test t (put s fs ks)) w.who ≡ true → Waits (start_test t (put s fs ks)) w
unfolding start_test
still_start t s fs [] w o m = absurd m
still_start t s fs (k ∷ ks) w o m =
    pick_case (λ (u : State). is_waiting u w.who ≡ true → Waits u w) (starts t fs (k ∷ ks)) _ _
    (λ _. gone m)
    (λ _ _. m)
  where
    -- the head does not wait a second time
    once : contains k.who (waiting_jobs ks) ≡ false
    once = grind (arith, once_move (started_jobs fs) k.who (waiting_jobs ks), once_first k.who (started_jobs fs ++ waiting_jobs ks), contains-append)

    gone : Among w (k ∷ ks) → contains w.who (waiting_jobs ks) ≡ true → Among w ks
    gone (inl q) h = absurd (both_ways _ once (rw q h))
    gone (inr y) h = y

still : (t : Table) (s : State) (e : Event) → Well t s → (w : Entry) → Waits s w → is_waiting (after t s e) w.who ≡ true → Waits (after t s e) w
still t s e c w m =
    after_case (λ u. is_waiting u w.who ≡ true → Waits u w) t s e
    (λ q.
    let x : State = change t s e in
    pick_case (λ u. is_waiting u w.who ≡ true → Waits u w) (is_tested e) _ _
    (λ _ h. still_start t x x.stack x.waiting w (well_change t s e q c).once (among_applied t s (effect t s e) w m) h)
    (λ _ h. among_applied t s (effect t s e) w m))
    (λ h. m)

pub one_entry : (t : Table) → table_refusal t ≡ 0 → (es : ℕ → Event) (w : Entry) (p q : ℕ) → p ≤ q → WaitsThrough t es w.who p q
    → Waits (moment t es p) w → Waits (moment t es q) w
unfolding moment
one_entry t g es w p q l th m =
    le_ind (λ n. WaitsThrough t es w.who p n → Waits (moment t es n) w)
    (λ _. m)
    (λ n l ih th. still t (moment t es n) (es n) (well_moment t g es n) w (ih (λ i x y. th i x (omega arith))) (th (suc n) (omega arith) (le_refl _)))
    q l th

-- ---- a job that waits is an entry that waits

pub find : (ks : List Entry) (j : ℕ) → contains j (waiting_jobs ks) ≡ true → (w : Entry) × Among w ks × (w.who ≡ j)
unfolding contains
find [] j h = absurd (false≢true h)
find (k ∷ ks) j h =
    ⊎_elim
    (λ x. (k, inl refl, eqb-true k.who j x))
    (λ x. let r = find ks j x in (r.0, inr r.1, r.2))
    (or_cases _ _ h)
