-- Lists of items that take a fixed number of bytes each: written one after the other, and read so.
use Rattle.std.specs.Prelude.{List, [], ◌∷◌, ◌++◌, ℕ, zero, suc, ◌+◌}

-- What f gives for each element, one after the other.
abbrev pub each : {A : Type 0} → (A → List ℕ) → List A → List ℕ
each f [] = []
each f (x ∷ xs) = f x ++ each f xs

-- n items of w bytes each in the bytes s, from a place on.
abbrev pub items : {A : Type 0} → (List ℕ → ℕ → A) → ℕ → ℕ → List ℕ → ℕ → List A
items read w zero s at = []
items read w (suc n) s at = read s at ∷ items read w n s (at + w)
