-- The largest, the sum, and tests over lists of numbers.
use Rattle.std.specs.Prelude.{Bool, true, false, not, ◌&&◌, ◌||◌, List, [], ◌∷◌, ℕ, zero, suc, ◌+◌, max, leb, eqb}

-- The largest of f 0, .., f (n - 1); 0 if there are none.
unfoldable pub max_below : ℕ → (ℕ → ℕ) → ℕ
max_below zero f = 0
max_below (suc n) f = max (max_below n f) (f n)

-- The sum of f 0, .., f (n - 1).
unfoldable pub sum_below : ℕ → (ℕ → ℕ) → ℕ
sum_below zero f = 0
sum_below (suc n) f = sum_below n f + f n

-- Does the test hold of 0, .., n - 1?
unfoldable pub every_below : ℕ → (ℕ → Bool) → Bool
every_below zero p = true
every_below (suc n) p = every_below n p && p n

-- The sum of a list.
unfoldable pub total : List ℕ → ℕ
total [] = 0
total (x ∷ xs) = x + total xs

-- Is x from low to high?
abbrev pub within : ℕ → ℕ → ℕ → Bool
within low high x = leb low x && leb x high

-- Does the test hold of every element?
unfoldable pub every : {A : Type 0} → (A → Bool) → List A → Bool
every p [] = true
every p (x ∷ xs) = p x && every p xs

-- As many amounts as bounds, and none above its bound?
unfoldable pub none_above : List ℕ → List ℕ → Bool
none_above [] [] = true
none_above [] (x ∷ xs) = false
none_above (b ∷ bs) [] = false
none_above (b ∷ bs) (x ∷ xs) = leb x b && none_above bs xs

-- Is j in the list?
unfoldable pub contains : ℕ → List ℕ → Bool
contains j [] = false
contains j (x ∷ xs) = eqb x j || contains j xs

-- Is each number in the list once?
unfoldable pub each_once : List ℕ → Bool
each_once [] = true
each_once (x ∷ xs) = not (contains x xs) && each_once xs
