-- The tests of the judging, as chains of iterators make them: a test of every element is the library's `list_all`.
use Rattle.std.specs.Prelude.{◌≡◌, refl, Bool, ◌&&◌, List, [], ◌∷◌, map, ℕ, zero, suc, length, take, leb}
use Rattle.std.specs.List.{list_all, zip}
use Rattle.std.proofs.Common.{ap, sym, ◌∙◌, arith}
use Rattle.rules.specs.Counting.{every, none_above}
use Rattle.rules.proofs.Counts.{every-map}

-- A test of all.
every_all : {A : Type 0} (p : A → Bool) (xs : List A) → every p xs ≡ list_all p xs
unfolding every
every_all p [] = refl
every_all p (x ∷ xs) = ap (λ b. p x && b) (every_all p xs)

-- Amounts within bounds, of lists of one length: as far as both are listed.
none_above_zip : (n : ℕ) (bs xs : List ℕ) → length bs ≡ length xs → none_above (take n bs) (take n xs) ≡ list_all (λ p. leb p.1 p.0) (zip (take n bs) xs)
unfolding none_above
none_above_zip zero bs xs e = refl
none_above_zip (suc n) [] [] e = refl
none_above_zip (suc n) [] (x ∷ xs) e = absurd (let f : ⊥ = omega arith in f)
none_above_zip (suc n) (b ∷ bs) [] e = absurd (let f : ⊥ = omega arith in f)
none_above_zip (suc n) (b ∷ bs) (x ∷ xs) e = ap (λ r. leb x b && r) (none_above_zip n bs xs (omega arith))

-- ---- an answer by the chain is one by the definition
pub by_all : {A : Type 0} (p : A → Bool) (xs : List A) (r : Bool) → r ≡ list_all p xs → r ≡ every p xs
by_all p xs r e = e ∙ sym (every_all p xs)

pub by_all_mapped : {A B : Type 0} (p : B → Bool) (f : A → B) (xs : List A) (r : Bool) → r ≡ list_all (λ x. p (f x)) xs → r ≡ every p (map f xs)
by_all_mapped p f xs r e = by_all (λ x. p (f x)) xs r e ∙ sym (every-map p f xs)

pub by_zip : (n : ℕ) (bs xs : List ℕ) (r : Bool) → length bs ≡ length xs → r ≡ list_all (λ p. leb p.1 p.0) (zip (take n bs) xs) → r ≡ none_above (take n bs) (take n xs)
by_zip n bs xs r l e = e ∙ sym (none_above_zip n bs xs l)
