-- A well-formed state taken apart and put together, and what follows of its entries.
use Rattle.std.specs.Prelude.{◌≡◌, Bool, true, List, [], ◌∷◌, ℕ, ◌≤◌, ◌<◌, ltb, leb}
use Rattle.std.proofs.Common.{sym, ◌∙◌, arith, ltb-true, leb-true, eq-eqb}
use Rattle.std.proofs.lemmas.Bool.{and_parts}
use Rattle.std.proofs.lemmas.Bool.Decides.{nat_tests}
use Rattle.rules.specs.Counting.{every}
use Rattle.rules.specs.Table.{Table, table_refusal, job_count, resource_count, units_of}
use Rattle.rules.specs.State.{Entry, Started, State, started_jobs, waiting_jobs, held_in}
use Rattle.rules.specs.WellFormed.{all_listed, none_twice, levels_rise, in_order, within_needs, within_units, writable, well_kept, well_formed}
use Rattle.rules.proofs.Counts.{every-append, every_below_at}
use Rattle.rules.proofs.Order.{Live}

-- the seven parts
pub record Well (t : Table) (s : State) : Type 0 where
  pub table : table_refusal t ≡ 0
  pub listed : all_listed t s ≡ true
  pub once : none_twice s ≡ true
  pub rising : levels_rise t s.stack ≡ true
  pub order : in_order t s.waiting ≡ true
  pub needs : within_needs t s.stack ≡ true
  pub units : within_units t s.stack ≡ true

pub well_parts : (t : Table) (s : State) → well_formed t s ≡ true → Well t s
unfolding well_formed
well_parts t s h = grind (arith, nat_tests)

pub well_formed_lem : (t : Table) (s : State) → Well t s → well_formed t s ≡ true
unfolding well_formed
well_formed_lem t s w = rw (eq-eqb (table_refusal t) 0 w.table, w.listed, w.once, w.rising, w.order, w.needs, w.units)

-- its own part, whatever its table
pub well_kept_lem : (t : Table) (s : State) → Well t s → well_kept t s ≡ true
unfolding well_formed
well_kept_lem t s w = (and_parts (writable t) (well_kept t s) (well_formed_lem t s w)).1

-- ---- what holds of each element of a list, and of every active entry

abbrev pub All : {A : Type 0} → (A → Type 0) → List A → Type 0
All P [] = Unit {0}
All P (x ∷ xs) = P x × All P xs

pub all_map : {A : Type 0} (P Q : A → Type 0) → ((x : A) → P x → Q x) → (xs : List A) → All P xs → All Q xs
all_map P Q h [] m = tt
all_map P Q h (x ∷ xs) m = (h x m.0, all_map P Q h xs m.1)

pub all_zip : {A : Type 0} (P Q R : A → Type 0) → ((x : A) → P x → Q x → R x) → (xs : List A) → All P xs → All Q xs → All R xs
all_zip P Q R h [] m n = tt
all_zip P Q R h (x ∷ xs) m n = (h x m.0 n.0, all_zip P Q R h xs m.1 n.1)

abbrev pub Everyone : (Entry → Type 0) → State → Type 0
Everyone P s = All (λ f. P f.entry) s.stack × All P s.waiting

-- every active entry is live
pub live_all : (t : Table) (s : State) → Well t s → Everyone (Live t s) s
unfolding every
live_all t s w =
    let p = and_parts _ _ (sym (every-append is (started_jobs s.stack) (waiting_jobs s.waiting)) ∙ w.listed) in
    (up s.stack p.0, along s.waiting p.1)
  where
    is : ℕ → Bool
    is j = ltb j (job_count t)

    up : (fs : List Started) → every is (started_jobs fs) ≡ true → All (λ f. Live t s f.entry) fs
    up [] h = tt
    up (f ∷ fs) h =
        let p = and_parts _ _ h in
        (record { listed = ltb-true _ _ p.0 }, up fs p.1)

    along : (ks : List Entry) → every is (waiting_jobs ks) ≡ true → All (Live t s) ks
    along [] h = tt
    along (k ∷ ks) h =
        let p = and_parts _ _ h in
        (record { listed = ltb-true _ _ p.0 }, along ks p.1)

-- the units held of a resource don't exceed its units
pub held_units : (t : Table) (s : State) → Well t s → (r : ℕ) → r < resource_count t → held_in s.stack r ≤ units_of t r
held_units t s w r l = leb-true _ _ (every_below_at (resource_count t) (λ r. leb (held_in s.stack r) (units_of t r)) w.units r l)
