-- The arrays and the rules' state are two writings of one state: what stands past the counts is zero, and so is what padding puts there;
-- and what `take` reads of a padded list is the list.
use Rattle.std.specs.Prelude.{◌≡◌, refl, true, List, [], ◌∷◌, map, reverse, ℕ, ◌≤◌, length, get_or, take, drop, eqb}
use Rattle.std.proofs.Common.{ap, ap₂, sym, ◌∙◌, arith, take_at, length-take-le, eqb-true, eq-eqb, zero-le}
use Rattle.std.proofs.lemmas.Bool.{and_parts, and_from}
use Rattle.std.proofs.lemmas.List.{length-map, length-reverse, reverse-reverse}
use mathlib.Core.List.{map-map}
use Rattle.rules.specs.Limits.{max_jobs, max_resources}
use Rattle.rules.specs.Counting.{every}
use Rattle.rules.specs.State as R
use Rattle.rules.proofs.Counts.{every_take_at, every_drop_at}
use Rattle.rules.proofs.Well.{All}
use Rattle.table.specs.declared.JobNo.{JobNo}
use Rattle.table.specs.declared.Table.{Table}
use Rattle.table.specs.Arrays.{padded}
use Rattle.table.specs.Judging.{is_zero}
use Rattle.table.proofs.Padded.{length-padded, every_padded, padded_back, numbers_back}
use Rattle.station.specs.declared.Started.{Started}
use Rattle.station.specs.declared.State.{State}
use Rattle.station.specs.Arrays.{entry_of, started_in, state_of, number_in, started_arrays, started_of_zeros, arrays_of}
use Rattle.station.specs.WellFormed.{held_blank, started_blank, well_formed}
use Rattle.station.proofs.View.{no_one, stack_up, map_reverse}
use Rattle.station.proofs.Parts.{none_there, Blank, formed}

-- ---- what padding puts back

-- Reversed, changed and reversed again, each element is where it was.
reversed_back : {A B : Type 0} (f : B → A) (g : A → B) (xs : List A) → reverse (map f (reverse (map g xs))) ≡ map (λ x. f (g x)) xs
reversed_back f g xs = ap reverse (map_reverse f (map g xs)) ∙ reverse-reverse (map f (map g xs)) ∙ map-map f g xs

-- What a place lists, made up again with zeros.
started_back : (m : ℕ) (f : Started) → held_blank m f ≡ true → started_arrays (started_in m f) ≡ f
started_back m f h =
    let p = and_parts (eqb (length f.held) max_resources) (every is_zero (drop m f.held)) h in
    ap (λ us. record { job = f.job; held = us }) (numbers_back m max_resources f.held (eqb-true (length f.held) max_resources p.0) p.1)

-- Places that agree in the job and in the holdings are the same.
started_same : (f g : Started) → f.job.0 ≡ g.job.0 → f.held ≡ g.held → f ≡ g
started_same f g p q =
    ap₂ (λ (n : ℕ) (us : List ℕ). record { job = record { 0 = n }; held = us }) p q

-- A place that is all zero.
zeros_back : (f : Started) → started_blank f ≡ true → f ≡ started_of_zeros
zeros_back f h =
    let p = and_parts (is_zero f.job.0) (held_blank 0 f) h in
    started_same f started_of_zeros (eqb-true f.job.0 0 p.0) (sym (ap (λ (g : Started). g.held) (started_back 0 f p.1)))

-- The stack of the first k places, and behind it places of zeros.
stack_back : (m k : ℕ) (xs : List Started) → length xs ≡ max_jobs → k ≤ max_jobs → every (held_blank m) (take k xs) ≡ true
    → every started_blank (drop k xs) ≡ true → padded started_of_zeros max_jobs (reverse (map started_arrays (stack_up m k xs))) ≡ xs
stack_back m k xs e few listed past =
    ap₂ (padded started_of_zeros) (sym e) (reversed_back started_arrays (started_in m) (take k xs))
    ∙ padded_back started_of_zeros started_of_zeros (λ f. started_arrays (started_in m f)) k xs
    (λ i l b. started_back m (get_or xs i started_of_zeros) (every_take_at (held_blank m) k xs started_of_zeros listed (omega arith) i b))
    (λ i l b. zeros_back (get_or xs i started_of_zeros) (every_drop_at started_blank k xs started_of_zeros past i l b))

-- The first k waiting jobs, and behind them zeros.
waiting_back : (k : ℕ) (xs : List JobNo) → length xs ≡ max_jobs → every none_there (drop k xs) ≡ true
    → padded no_one max_jobs (map number_in (map entry_of (take k xs))) ≡ xs
waiting_back k xs e past =
    ap₂ (padded no_one) (sym e) (map-map number_in entry_of (take k xs))
    ∙ padded_back no_one no_one (λ j. j) k xs (λ i l b. refl)
    (λ i l b. ap (λ (n : ℕ). record { 0 = n }) (eqb-true _ 0 (every_drop_at none_there k xs no_one past i l b)))

-- A place made up with zeros.
pub held_padded : (m : ℕ) (f : R.Started) → length f.held ≡ m → m ≤ max_resources → held_blank m (started_arrays f) ≡ true
held_padded m f e l =
    and_from _ _ (eq-eqb _ max_resources (length-padded 0 max_resources f.held (omega arith))) (every_padded is_zero 0 max_resources m f.held refl e)

-- A place of zeros is all zero.
pub zeros_blank : started_blank started_of_zeros ≡ true
zeros_blank = held_padded 0 (record { entry = record { who = 0 }; held = [] }) refl zero-le

-- ---- from the arrays to the rules' state and back

-- How many are started, and how many wait.
pub stack_length : (s : State) → Blank s → length (state_of s).stack ≡ s.depth
stack_length s b =
    length-reverse (map (started_in s.table.resource_count) (take s.depth s.stack))
    ∙ length-map (take s.depth s.stack) (started_in s.table.resource_count)
    ∙ length-take-le s.depth s.stack (omega (arith, b.stack_length, b.depth_fits))

pub waiting_length : (s : State) → Blank s → length (state_of s).waiting ≡ s.waiting_count
waiting_length s b =
    length-map (take s.waiting_count s.waiting) entry_of ∙ length-take-le s.waiting_count s.waiting (omega (arith, b.waiting_length, b.count_fits))

-- States that agree in each field are the same.
state_same : (a b : State) → a.table ≡ b.table → a.stack ≡ b.stack → a.depth ≡ b.depth → a.waiting ≡ b.waiting → a.waiting_count ≡ b.waiting_count → a ≡ b
state_same a b p q r u v =
    ap (λ t. record { table = t; stack = a.stack; depth = a.depth; waiting = a.waiting; waiting_count = a.waiting_count }) p
    ∙ ap₂ (λ fs n. record { table = b.table; stack = fs; depth = n; waiting = a.waiting; waiting_count = a.waiting_count }) q r
    ∙ ap₂ (λ js n. record { table = b.table; stack = b.stack; depth = b.depth; waiting = js; waiting_count = n }) u v

-- The arrays hold exactly what the rules' state reads of them.
pub blank_back : (s : State) → Blank s → arrays_of s.table (state_of s) ≡ s
blank_back s b =
    state_same (arrays_of s.table (state_of s)) s refl
    (stack_back s.table.resource_count s.depth s.stack b.stack_length b.depth_fits b.held_fits b.stack_past)
    (stack_length s b)
    (waiting_back s.waiting_count s.waiting b.waiting_length b.waiting_past)
    (waiting_length s b)

-- So they do in a well-formed state.
pub state_back : (s : State) → well_formed s ≡ true → arrays_of s.table (state_of s) ≡ s
state_back s h = blank_back s (formed s h).padding

-- As many wait as are counted.
pub counted : (s : State) → well_formed s ≡ true → length (state_of s).waiting ≡ s.waiting_count
counted s h = waiting_length s (formed s h).padding

-- What is made up with zeros is read as it was: the places of the stack ..
started_read : (m : ℕ) (fs : List R.Started) → All (λ (f : R.Started). length f.held ≡ m) fs → map (started_in m) (map started_arrays fs) ≡ fs
started_read m [] h = refl
started_read m (f ∷ fs) h =
    ap₂ (λ (us : List ℕ) (gs : List R.Started). record { entry = f.entry; held = us } ∷ gs)
    (take_at f.held _ m h.0) (started_read m fs h.1)

-- .. and the waiting jobs.
waiting_read : (ks : List R.Entry) → map entry_of (map number_in ks) ≡ ks
waiting_read [] = refl
waiting_read (k ∷ ks) = ap (λ (ls : List R.Entry). k ∷ ls) (waiting_read ks)

-- A state of the rules is read again from its arrays.
pub back_state : (t : Table) (st : R.State) → All (λ (f : R.Started). length f.held ≡ t.resource_count) st.stack → state_of (arrays_of t st) ≡ st
back_state t st h =
    let m = t.resource_count in
    let fs = map started_arrays st.stack in
    ap₂ (λ (gs : List R.Started) (ks : List R.Entry). record { stack = gs; waiting = ks })
    (ap (λ gs. reverse (map (started_in m) gs)) (take_at (reverse fs) _ (length st.stack) (length-reverse fs ∙ length-map st.stack started_arrays))
    ∙ ap reverse (map_reverse (started_in m) fs)
    ∙ reverse-reverse (map (started_in m) fs)
    ∙ started_read m st.stack h)
    (ap (map entry_of) (take_at (map number_in st.waiting) _ (length st.waiting) (length-map st.waiting number_in)) ∙ waiting_read st.waiting)
