-- Laws of the largest, of sums, and of tests over lists of numbers.
use Rattle.std.specs.Prelude.{◌≡◌, refl, Bool, true, false, ◌&&◌, ◌||◌, List, [], ◌∷◌, ◌++◌, map, reverse, ℕ, zero, suc, ◌+◌, ◌-◌, ◌≤◌, ◌<◌, max, length, get_or, set, take, drop, replicate, eqb}
use Rattle.std.proofs.Common.{ap, ap₂, sym, ◌∙◌, zero-le, le_refl, le_trans, not-suc-le-zero, arith, leb-true}
use Rattle.std.proofs.lemmas.Bool.{not-true, false≢true, cases_eq, cases_lt, and_parts, and_from}
use Rattle.std.proofs.lemmas.Bool.Decides.{nat_tests}
use Rattle.std.proofs.lemmas.List.{get_or-set_same, get_or-set_other, set_past, get_or_past, get_or-take, get_or-drop, length-take-le, length-drop, take-append-drop, reverse-append, places}
use Rattle.std.proofs.Math.Bool.{and-true}
use Rattle.std.proofs.Math.Decide.{le_ind}
use Rattle.rules.specs.Counting.{max_below, sum_below, every_below, total, every, none_above, contains, each_once}

-- ---- the largest

pub max_below_le : (n : ℕ) (f : ℕ → ℕ) (b : ℕ) → ((i : ℕ) → i < n → f i ≤ b) → max_below n f ≤ b
unfolding max_below
max_below_le zero f b h = zero-le
max_below_le (suc n) f b h = grind (arith, h n, max_below_le n f b (λ i l. h i (omega arith)))

pub le_max_below : (n : ℕ) (f : ℕ → ℕ) (i : ℕ) → i < n → f i ≤ max_below n f
unfolding max_below
le_max_below zero f i h = absurd (not-suc-le-zero h)
le_max_below (suc n) f i h = grind (arith, cases_eq i n, le_max_below n f i)

pub max_below_mono : (n : ℕ) (f g : ℕ → ℕ) → ((i : ℕ) → i < n → f i ≤ g i) → max_below n f ≤ max_below n g
max_below_mono n f g h = max_below_le n f (max_below n g) (λ i l. le_trans (h i l) (le_max_below n g i l))

-- the largest of the same amounts
pub max_below_same : (n : ℕ) (f g : ℕ → ℕ) → ((i : ℕ) → i < n → f i ≡ g i) → max_below n f ≡ max_below n g
unfolding max_below
max_below_same zero f g h = refl
max_below_same (suc n) f g h = ap₂ max (max_below_same n f g (λ i l. h i (omega arith))) (h n (omega arith))

-- ---- sums

-- the sum of the same amounts
pub sum_below_same : (n : ℕ) (f g : ℕ → ℕ) → ((i : ℕ) → i < n → f i ≡ g i) → sum_below n f ≡ sum_below n g
unfolding sum_below
sum_below_same zero f g h = refl
sum_below_same (suc n) f g h = ap₂ ◌+◌ (sum_below_same n f g (λ i l. h i (omega arith))) (h n (omega arith))

pub sum_below_mono : (f : ℕ → ℕ) (n m : ℕ) → n ≤ m → sum_below n f ≤ sum_below m f
unfolding sum_below
sum_below_mono f n m h = le_ind (λ k. sum_below n f ≤ sum_below k f) (le_refl _) (λ k l ih. omega arith) m h

pub total_at : (xs : List ℕ) (r : ℕ) → get_or xs r 0 ≤ total xs
unfolding total
total_at [] r = zero-le
total_at (x ∷ xs) zero = omega arith
total_at (x ∷ xs) (suc r) = omega (arith, total_at xs r)

pub total_zeros : (n : ℕ) → total (replicate n 0) ≡ 0
unfolding total
total_zeros zero = refl
total_zeros (suc n) = rw (total_zeros n)

-- an array of zeros has 0 at each place and past it
pub zeros_at : (n r : ℕ) → get_or {A = ℕ} (replicate n 0) r 0 ≡ 0
zeros_at n r = grind (arith, cases_lt r n, places, get_or_past)

-- ---- tests of every number and of every element

pub every_below_make : (n : ℕ) (p : ℕ → Bool) → ((i : ℕ) → i < n → p i ≡ true) → every_below n p ≡ true
unfolding every_below
every_below_make zero p h = refl
every_below_make (suc n) p h = and_from _ _ (every_below_make n p (λ i l. h i (omega arith))) (h n (omega arith))

pub every_below_at : (n : ℕ) (p : ℕ → Bool) → every_below n p ≡ true → (i : ℕ) → i < n → p i ≡ true
unfolding every_below
every_below_at zero p h i l = absurd (not-suc-le-zero l)
every_below_at (suc n) p h i l = grind (arith, cases_eq i n, every_below_at n p)

-- the same tests of all
pub every_below_same : (n : ℕ) (p q : ℕ → Bool) → ((i : ℕ) → i < n → p i ≡ q i) → every_below n p ≡ every_below n q
unfolding every_below
every_below_same zero p q h = refl
every_below_same (suc n) p q h = ap₂ ◌&&◌ (every_below_same n p q (λ i l. h i (omega arith))) (h n (omega arith))

-- a test of every number begins with 0
pub every_below_first : (n : ℕ) (p : ℕ → Bool) → every_below (suc n) p ≡ (p 0 && every_below n (λ r. p (suc r)))
unfolding every_below
every_below_first zero p = grind arith
every_below_first (suc n) p = grind (arith, every_below_first n p)

pub every_at : {A : Type 0} (p : A → Bool) (xs : List A) → every p xs ≡ true → (i : ℕ) (d : A) → i < length xs → p (get_or xs i d) ≡ true
unfolding every
every_at p [] h i d l = absurd (not-suc-le-zero l)
every_at p (x ∷ xs) h zero d l = (and_parts _ _ h).0
every_at p (x ∷ xs) h (suc i) d l = every_at p xs (and_parts _ _ h).1 i d (omega arith)

-- a test of two lists, of one element more, and of one element many times
pub every-append : {A : Type 0} (p : A → Bool) (xs ys : List A) → every p (xs ++ ys) ≡ (every p xs && every p ys)
unfolding every
every-append p [] ys = refl
every-append p (x ∷ xs) ys = grind (arith, every-append p xs ys)

pub every_last : {A : Type 0} (p : A → Bool) (xs : List A) (x : A) → every p (xs ++ x ∷ []) ≡ (every p xs && p x)
unfolding every
every_last p xs x = every-append p xs (x ∷ []) ∙ ap (λ b. every p xs && b) (and-true (p x))

pub every_replicate : {A : Type 0} (p : A → Bool) (n : ℕ) (x : A) → p x ≡ true → every p (replicate n x) ≡ true
unfolding every
every_replicate p zero x h = refl
every_replicate p (suc n) x h = and_from _ _ h (every_replicate p n x h)

-- a test of changed elements
pub every-map : {A B : Type 0} (p : B → Bool) (f : A → B) (xs : List A) → every p (map f xs) ≡ every (λ x. p (f x)) xs
unfolding every
every-map p f [] = refl
every-map p f (x ∷ xs) = ap (λ b. p (f x) && b) (every-map p f xs)

-- what holds of all holds of the front, ..
pub every_take : {A : Type 0} (p : A → Bool) (n : ℕ) (xs : List A) → every p xs ≡ true → every p (take n xs) ≡ true
every_take p n xs h =
    (and_parts (every p (take n xs)) (every p (drop n xs)) (sym (every-append p (take n xs) (drop n xs)) ∙ ap (every p) (take-append-drop n xs) ∙ h)).0

-- .. what holds of the front holds of each element before place k, ..
pub every_take_at : {A : Type 0} (p : A → Bool) (k : ℕ) (xs : List A) (d : A) → every p (take k xs) ≡ true → k ≤ length xs → (i : ℕ) → i < k → p (get_or xs i d) ≡ true
every_take_at p k xs d h n i b =
    ap p (sym (get_or-take k xs i d b)) ∙ every_at p (take k xs) h i d (rw (length-take-le k xs n) b)

-- .. and what holds of the rest holds of each from place k on
pub every_drop_at : {A : Type 0} (p : A → Bool) (k : ℕ) (xs : List A) (d : A) → every p (drop k xs) ≡ true → (i : ℕ) → i < length xs → k ≤ i → p (get_or xs i d) ≡ true
every_drop_at p k xs d h i l b =
    let e : k + (i - k) ≡ i = omega arith in
    ap p (sym (get_or-drop k xs (i - k) d ∙ ap (λ n. get_or xs n d) e)) ∙ every_at p (drop k xs) h (i - k) d (simp length-drop (omega arith))

-- ---- the order of a list does not matter to a test of all of it

-- a list's first element goes to the end of its reverse
pub reverse-first : {A : Type 0} (x : A) (xs : List A) → reverse (x ∷ xs) ≡ reverse xs ++ x ∷ []
reverse-first x xs = reverse-append (x ∷ []) xs

-- one element in the midst of a list, or before it
pub every_move : (p : ℕ → Bool) (xs : List ℕ) (y : ℕ) (ys : List ℕ) → every p (xs ++ y ∷ ys) ≡ every p (y ∷ xs ++ ys)
unfolding every
every_move p xs y ys = rw (every-append p xs (y ∷ ys), every-append p xs ys) (grind arith)

pub every_reverse : {A : Type 0} (p : A → Bool) (xs : List A) → every p (reverse xs) ≡ every p xs
unfolding every
every_reverse p [] = refl
every_reverse p (x ∷ xs) = rw (reverse-first x xs, every_last p (reverse xs) x, every_reverse p xs) (grind arith)

-- ---- amounts within bounds

pub none_above-length : (bs xs : List ℕ) → none_above bs xs ≡ true → length xs ≡ length bs
unfolding none_above
none_above-length [] [] h = refl
none_above-length [] (x ∷ xs) h = absurd (false≢true h)
none_above-length (b ∷ bs) [] h = absurd (false≢true h)
none_above-length (b ∷ bs) (x ∷ xs) h = ap suc (none_above-length bs xs (and_parts _ _ h).1)

pub none_above_at : (bs xs : List ℕ) → none_above bs xs ≡ true → (r : ℕ) → get_or xs r 0 ≤ get_or bs r 0
unfolding none_above
none_above_at [] [] h r = zero-le
none_above_at [] (x ∷ xs) h r = absurd (false≢true h)
none_above_at (b ∷ bs) [] h r = zero-le
none_above_at (b ∷ bs) (x ∷ xs) h zero = leb-true x b (and_parts _ _ h).0
none_above_at (b ∷ bs) (x ∷ xs) h (suc r) = none_above_at bs xs (and_parts _ _ h).1 r

-- one amount set anew
pub none_above-set : (bs xs : List ℕ) (r v : ℕ) → none_above bs xs ≡ true → v ≤ get_or bs r 0 → none_above bs (set xs r v) ≡ true
unfolding none_above
none_above-set [] [] r v h l = refl
none_above-set [] (x ∷ xs) r v h l = absurd (false≢true h)
none_above-set (b ∷ bs) [] r v h l = absurd (false≢true h)
none_above-set (b ∷ bs) (x ∷ xs) zero v h l = grind (arith, nat_tests)
none_above-set (b ∷ bs) (x ∷ xs) (suc r) v h l = grind (arith, none_above-set bs xs r v)

pub none_above_zeros : (bs : List ℕ) (n : ℕ) → length bs ≡ n → none_above bs (replicate n 0) ≡ true
unfolding none_above
none_above_zeros [] n e = rw (← e)
none_above_zeros (b ∷ bs) n e = rw (← e) (grind (arith, nat_tests, none_above_zeros bs (length bs) refl))

-- what holds at a place after one amount was set anew
pub at_set : (Q : ℕ → Type 0) (xs : List ℕ) (r v k : ℕ) → (k ≡ r → Q v) → Q (get_or xs k 0) → Q (get_or (set xs r v) k 0)
at_set Q xs r v k h q = grind (arith, cases_eq k r, cases_lt r (length xs), get_or-set_same, get_or-set_other, set_past)

-- ---- a number in a list, and each number once

pub eqb_flip : (a b : ℕ) → eqb a b ≡ eqb b a
eqb_flip a b = grind (arith, nat_tests)

pub contains-append : (j : ℕ) (xs ys : List ℕ) → contains j (xs ++ ys) ≡ (contains j xs || contains j ys)
unfolding contains
contains-append j [] ys = refl
contains-append j (x ∷ xs) ys = grind (arith, contains-append j xs ys)

pub contains_reverse : (j : ℕ) (xs : List ℕ) → contains j (reverse xs) ≡ contains j xs
unfolding contains
contains_reverse j [] = refl
contains_reverse j (x ∷ xs) =
    rw (reverse-first x xs, contains-append j (reverse xs) (x ∷ []), contains_reverse j xs) (grind arith)

pub contains_move : (j : ℕ) (xs : List ℕ) (y : ℕ) (ys : List ℕ) → contains j (xs ++ y ∷ ys) ≡ contains j (y ∷ xs ++ ys)
unfolding contains
contains_move j [] y ys = refl
contains_move j (x ∷ xs) y ys = grind (arith, contains_move j xs y ys)

pub once_move : (xs : List ℕ) (y : ℕ) (ys : List ℕ) → each_once (xs ++ y ∷ ys) ≡ each_once (y ∷ xs ++ ys)
unfolding each_once contains
once_move [] y ys = refl
once_move (x ∷ xs) y ys = grind (arith, nat_tests, once_move xs y ys, contains_move x xs y ys)

-- of the first number: it is not there again
pub once_first : (x : ℕ) (xs : List ℕ) → each_once (x ∷ xs) ≡ true → (contains x xs ≡ false) × (each_once xs ≡ true)
unfolding each_once
once_first x xs h = let p = and_parts _ _ h in (not-true (contains x xs) p.0, p.1)

-- where each number of two lists is there once, so it is in the second
pub once_behind : (xs ys : List ℕ) → each_once (xs ++ ys) ≡ true → each_once ys ≡ true
once_behind [] ys h = h
once_behind (x ∷ xs) ys h = once_behind xs ys (once_first x (xs ++ ys) h).1
