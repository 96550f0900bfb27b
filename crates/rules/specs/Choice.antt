-- A choice between two things, and a refusal by the first of several tests that fails.
use Rattle.std.specs.Prelude.{Bool, true, false, List, [], ◌∷◌, ℕ}

-- The one if the test holds, else the other.
abbrev pub pick : {A : Type 0} → Bool → A → A → A
pick true a b = a
pick false a b = b

-- A test that refuses, and the number that it refuses with.
pub record Check : Type 0 where
  pub fails : Bool
  pub number : ℕ

abbrev pub refuse : Bool → ℕ → Check
refuse b n = record { fails = b; number = n }

-- The first test that fails decides; 0 if none does.
unfoldable pub first_bad : List Check → ℕ
first_bad [] = 0
first_bad (c ∷ cs) = pick c.fails c.number (first_bad cs)
