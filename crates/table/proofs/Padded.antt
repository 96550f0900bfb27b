-- A list made up with zeros, or with whatever stands for nothing: how long it is, what stands in it past the list, and one element more.
-- Where an array holds nothing but that past a count, padding what stands before puts the array back.
use Rattle.std.specs.Prelude.{◌≡◌, refl, Bool, true, List, [], ◌∷◌, ◌++◌, map, ℕ, zero, suc, ◌-◌, ◌≤◌, ◌<◌, length, get_or, set, take, drop, replicate}
use Rattle.std.proofs.Common.{ap, ap₂, sym, ◌∙◌, arith, append_assoc, length-append, zero-le, eqb-true, drop_at}
use Rattle.std.proofs.lemmas.List.{length-replicate, map-id}
use Rattle.std.proofs.Math.Nat.{sub-zero}
use Rattle.std.proofs.Math.Seq.{set-append_seam}
use Rattle.rules.specs.Counting.{every}
use Rattle.rules.proofs.Counts.{every_replicate, every_drop_at}
use Rattle.table.specs.Arrays.{padded}
use Rattle.table.specs.Judging.{is_zero}

-- It has so many places.
pub length-padded : {A : Type 0} (z : A) (n : ℕ) (xs : List A) → length xs ≤ n → length (padded z n xs) ≡ n
length-padded z n xs l = omega (arith, length-append xs (replicate (n - length xs) z), length-replicate (n - length xs) z)

-- Past what is padded stands nothing but what padding puts there.
pub every_padded : {A : Type 0} (p : A → Bool) (z : A) (n k : ℕ) (xs : List A) → p z ≡ true → length xs ≡ k → every p (drop k (padded z n xs)) ≡ true
every_padded p z n k xs h e =
    ap (every p) (drop_at xs (replicate (n - length xs) z) k e) ∙ every_replicate p (n - length xs) z h

-- One element more takes the first place past them.
pub padded_put : {A : Type 0} (z : A) (n : ℕ) (xs : List A) (x : A) → length xs < n → set (padded z n xs) (length xs) x ≡ padded z n (xs ++ x ∷ [])
padded_put z n xs x h =
    let e : n - length xs ≡ suc (n - length (xs ++ x ∷ [])) = simp length-append (omega arith) in
    ap (λ (k : ℕ). set (xs ++ replicate k z) (length xs) x) e
    ∙ set-append_seam xs z (replicate (n - length (xs ++ x ∷ [])) z) x
    ∙ sym (append_assoc xs (x ∷ []) (replicate (n - length (xs ++ x ∷ [])) z))

-- ---- what padding puts back

-- A list whose entries are all z.
replicate_back : {A : Type 0} (z d : A) (xs : List A) → ((i : ℕ) → i < length xs → get_or xs i d ≡ z) → replicate (length xs) z ≡ xs
replicate_back z d [] h = refl
replicate_back z d (x ∷ xs) h = ap₂ (λ y ys. y ∷ ys) (sym (h 0 (omega arith))) (replicate_back z d xs (λ i l. h (suc i) (omega arith)))

-- The front of a list, each entry as it was, and behind it what stood there anyway.
pub padded_back : {A : Type 0} (z d : A) (f : A → A) (k : ℕ) (xs : List A) → ((i : ℕ) → i < length xs → i < k → f (get_or xs i d) ≡ get_or xs i d)
    → ((i : ℕ) → i < length xs → k ≤ i → get_or xs i d ≡ z) → padded z (length xs) (map f (take k xs)) ≡ xs
padded_back z d f zero xs h g = rw (sub-zero (length xs)) (replicate_back z d xs (λ i l. g i l zero-le))
padded_back z d f (suc k) [] h g = refl
padded_back z d f (suc k) (x ∷ xs) h g =
    let e : suc (length xs) - suc (length (map f (take k xs))) ≡ length xs - length (map f (take k xs)) = omega arith in
    ap (λ n. f x ∷ map f (take k xs) ++ replicate n z) e
    ∙ ap₂ (λ y ys. y ∷ ys) (h 0 (omega arith) (omega arith))
    (padded_back z d f k xs (λ i l b. h (suc i) (omega arith) (omega arith)) (λ i l b. g (suc i) (omega arith) (omega arith)))

-- Of numbers, where those past the first k are 0.
pub numbers_back : (k n : ℕ) (xs : List ℕ) → length xs ≡ n → every is_zero (drop k xs) ≡ true → padded 0 n (take k xs) ≡ xs
numbers_back k n xs e h =
    ap (λ m. padded 0 m (take k xs)) (sym e)
    ∙ ap (padded 0 (length xs)) (sym (map-id (take k xs)))
    ∙ padded_back 0 0 (λ x. x) k xs (λ i l b. refl) (λ i l b. eqb-true _ 0 (every_drop_at is_zero k xs 0 h i l b))
