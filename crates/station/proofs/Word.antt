-- The waiting word, as one pass over the waiting jobs adds it up: one job more, not there before, adds its bit.
-- A sum of different powers of two, each below 2 ^ n, is below 2 ^ n.
use Rattle.std.specs.Prelude.{◌≡◌, refl, Bool, true, false, ◌||◌, List, [], ◌∷◌, ◌++◌, map, ℕ, zero, suc, ◌+◌, ◌*◌, ◌%◌, ◌^◌, ◌≤◌, ◌<◌, length, get_or, take, eqb}
use Rattle.std.proofs.Common.{ap, sym, ◌∙◌, arith, ⊎_elim}
use Rattle.std.proofs.lemmas.Bool.{cases_eq, eq-eqb, ne_eqb, or_parts, or_from}
use Rattle.std.proofs.Math.Bool.{or-false}
use Rattle.std.proofs.lemmas.List.{map-append, take-map, take_more, length-map, get_or-map}
use Rattle.std.proofs.lemmas.Nat.{pow_below}
use Rattle.std.proofs.Math.Pow.{pow_mono}
use Rattle.rules.specs.Choice.{pick}
use Rattle.rules.specs.Counting.{sum_below, contains, each_once}
use Rattle.rules.specs.State.{started_jobs, waiting_jobs}
use Rattle.rules.specs.Waiting.{waiting_word}
use Rattle.rules.specs.Limits.{max_jobs}
use Rattle.rules.specs.Table.{job_count}
use Rattle.rules.proofs.Counts.{sum_below_same, contains-append, eqb_flip, once_first, once_behind}
use Rattle.table.specs.declared.JobNo.{JobNo}
use Rattle.table.specs.Arrays.{table_of}
use Rattle.station.specs.declared.State.{State}
use Rattle.station.specs.Arrays.{entry_of, state_of}
use Rattle.station.specs.WellFormed.{well_formed}
use Rattle.station.proofs.View.{jobs_waiting}
use Rattle.station.proofs.Parts.{formed}
use Rattle.station.proofs.Room.{kept_active, room}
use Rattle.station.proofs.Formed.{listed_waiting}

-- The bits of the jobs that the test says.
abbrev pub bits : ℕ → (ℕ → Bool) → ℕ
bits n p = sum_below n (λ j. pick (p j) (2 ^ j) 0)

-- The next power is twice as much.
power_more : (n : ℕ) → 2 ^ suc n ≡ 2 ^ n + 2 ^ n
power_more n = grind arith

-- A bit that is set or not.
bit_small : (b : Bool) (n : ℕ) → pick b (2 ^ n) 0 ≤ 2 ^ n
bit_small true n = omega arith
bit_small false n = omega arith

-- Bits below n make less than 2 ^ n.
bits_small : (n : ℕ) (p : ℕ → Bool) → bits n p < 2 ^ n
unfolding sum_below
bits_small zero p = omega arith
bits_small (suc n) p = omega (arith, bits_small n p, bit_small (p n) n, power_more n)

-- Only the tests below n count.
bits_same : (n : ℕ) (p q : ℕ → Bool) → ((j : ℕ) → j < n → p j ≡ q j) → bits n p ≡ bits n q
bits_same n p q h = sum_below_same n _ _ (λ j l. ap (λ b. pick b (2 ^ j) 0) (h j l))

-- No bits.
bits_none : (n : ℕ) → 0 ≡ bits n (λ j. false)
unfolding sum_below
bits_none zero = refl
bits_none (suc n) = omega (arith, bits_none n)

-- The top bit, which is above the others.
top : (n k : ℕ) (p : ℕ → Bool) → k ≡ n → p k ≡ false → bits (suc n) (λ j. p j || eqb k j) ≡ bits (suc n) p + 2 ^ k
unfolding sum_below
top n k p q e =
    let others = bits_same n (λ j. p j || eqb k j) p (λ j l. ap (λ b. p j || b) (ne_eqb k j (λ (f : k ≡ j). omega arith)) ∙ or-false (p j)) in
    let none : p n ≡ false = rw q at e in
    let here : eqb k n ≡ true = eq-eqb k n q in
    rw (none, here, q) (omega (arith, rw q at others))

-- Another bit.
below : (n k : ℕ) (p : ℕ → Bool) → (k ≡ n → ⊥) → bits n (λ j. p j || eqb k j) ≡ bits n p + 2 ^ k → bits (suc n) (λ j. p j || eqb k j) ≡ bits (suc n) p + 2 ^ k
unfolding sum_below
below n k p q e = rw (ne_eqb k n q, or-false (p n)) (omega arith)

-- One bit more.
bits_more : (n k : ℕ) (p : ℕ → Bool) → k < n → p k ≡ false → bits n (λ j. p j || eqb k j) ≡ bits n p + 2 ^ k
unfolding sum_below
bits_more zero k p l e = absurd (let f : ⊥ = omega arith in f)
bits_more (suc n) k p l e =
    ⊎_elim
    (λ q. top n k p q e)
    (λ q. below n k p q (bits_more n k p (omega arith) e))
    (cases_eq k n)

-- ---- the jobs so far

-- A number that is not there is at no place.
absent_at : (x : ℕ) (xs : List ℕ) (i : ℕ) → contains x xs ≡ false → i < length xs → eqb (get_or xs i 0) x ≡ false
unfolding contains
absent_at x [] i h l = absurd (let f : ⊥ = omega arith in f)
absent_at x (y ∷ ys) zero h l = (or_parts _ _ h).0
absent_at x (y ∷ ys) (suc i) h l = absent_at x ys i (or_parts _ _ h).1 (omega arith)

-- A number that is there once is not among those before it.
once_at : (xs : List ℕ) (i : ℕ) → each_once xs ≡ true → i < length xs → contains (get_or xs i 0) (take i xs) ≡ false
unfolding contains
once_at [] i h l = absurd (let f : ⊥ = omega arith in f)
once_at (x ∷ xs) zero h l = refl
once_at (x ∷ xs) (suc i) h l =
    let e = once_first x xs h in
    or_from (eqb x (get_or xs i 0)) _ (eqb_flip x (get_or xs i 0) ∙ absent_at x xs i e.0 (omega arith)) (once_at xs i e.1 (omega arith))

-- The numbers of the first i waiting jobs.
abbrev pub numbers : ℕ → List JobNo → List ℕ
numbers i ks = map (λ k. k.0) (take i ks)

-- The word of the first i waiting jobs.
abbrev pub word_of : ℕ → ℕ → List JobNo → ℕ
word_of n i ks = waiting_word n (map entry_of (take i ks))

-- The bits of these jobs.
word_bits : (n i : ℕ) (ks : List JobNo) → word_of n i ks ≡ bits n (λ j. contains j (numbers i ks))
unfolding waiting_word
word_bits n i ks = ap (λ xs. bits n (λ j. contains j xs)) (jobs_waiting (take i ks))

-- One number more.
numbers_more : (i : ℕ) (ks : List JobNo) (d : JobNo) → i < length ks → numbers (i + 1) ks ≡ numbers i ks ++ (get_or ks i d).0 ∷ []
numbers_more i ks d l = ap (map (λ k. k.0)) (take_more ks i d l) ∙ map-append (λ k. k.0) (take i ks) (get_or ks i d ∷ [])

-- It is among them, and so are those before it.
contains_more : (j x : ℕ) (xs : List ℕ) → contains j (xs ++ x ∷ []) ≡ (contains j xs || eqb x j)
unfolding contains
contains_more j x xs = contains-append j xs (x ∷ []) ∙ ap (λ b. contains j xs || b) (or-false (eqb x j))

-- One job more.
word_more : (n i : ℕ) (ks : List JobNo) (d : JobNo) → i < length ks → (get_or ks i d).0 < n → contains (get_or ks i d).0 (numbers i ks) ≡ false
    → word_of n (i + 1) ks ≡ word_of n i ks + 2 ^ (get_or ks i d).0
word_more n i ks d l b e =
    let x = (get_or ks i d).0 in
    word_bits n (i + 1) ks
    ∙ ap (λ xs. bits n (λ j. contains j xs)) (numbers_more i ks d l)
    ∙ bits_same n _ _ (λ j q. contains_more j x (numbers i ks))
    ∙ bits_more n x (λ j. contains j (numbers i ks)) b e
    ∙ ap (λ m. m + 2 ^ x) (sym (word_bits n i ks))

-- No job's word is 0.
pub word_none : (n : ℕ) (ks : List JobNo) → 0 ≡ word_of n 0 ks
unfolding contains
word_none n ks = bits_none n ∙ sym (word_bits n 0 ks)

-- A word of n bits is below 2 ^ n.
word_small : (n i : ℕ) (ks : List JobNo) → word_of n i ks < 2 ^ n
word_small n i ks = rw (word_bits n i ks) (bits_small n (λ j. contains j (numbers i ks)))

-- ---- of a well-formed state

-- What a step of the pass needs: the job's bit is one of the 32 of the word, new, and the sum is below 2 ^ 32.
pub record Step (n : ℕ) (ks : List JobNo) (i x : ℕ) : Type 0 where
  pub low : x < 32
  pub shifted : 1 * 2 ^ x % 2 ^ 32 ≡ 2 ^ x
  pub more : word_of n (i + 1) ks ≡ word_of n i ks + 2 ^ x
  pub small : word_of n i ks + 2 ^ x < 2 ^ 32

-- Each waiting job is listed, and there once, so each step of the pass is such.
pub step : (s : State) (ks : List JobNo) (i : ℕ) (d : JobNo) → well_formed s ≡ true → ks ≡ take s.waiting_count s.waiting → i < length ks
    → Step (job_count (table_of s.table)) ks i (get_or ks i d).0
step s ks i d h e l =
    let n = job_count (table_of s.table) in
    let x = (get_or ks i d).0 in
    let js = map (λ (k : JobNo). k.0) ks in
    let p = kept_active (table_of s.table) (state_of s) (formed s h).kept in
    let few : n ≤ max_jobs = (room s h).jobs in
    let at : get_or js i 0 ≡ x = get_or-map (λ (k : JobNo). k.0) ks i d 0 l in
    let long : i < length js = omega (arith, length-map ks (λ (k : JobNo). k.0)) in
    let once : each_once js ≡ true =
    ap (λ us. each_once (map (λ (k : JobNo). k.0) us)) e
    ∙ ap each_once (sym (jobs_waiting (take s.waiting_count s.waiting)))
    ∙ once_behind (started_jobs (state_of s).stack) (waiting_jobs (state_of s).waiting) p.1 in
    let new : contains x (numbers i ks) ≡ false = rw (at, take-map (λ (k : JobNo). k.0) i ks) at (once_at js i once long) in
    let below : x < n = listed_waiting s p.0 ks e i d l in
    let more : word_of n (i + 1) ks ≡ word_of n i ks + 2 ^ x = word_more n i ks d l below new in
    let bit : 2 ^ x < 2 ^ 32 = pow_below x 32 (omega arith) in
    record {
      low = omega arith;
      shifted = omega arith;
      more = more;
      small = omega (arith, word_small n (i + 1) ks, pow_mono {i = n} {j = 32} (omega arith));
    }
