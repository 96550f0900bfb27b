-- Bytes that stand at a place of others: what is read there is what they were written of.
-- The parts of what stands there stand one behind the other, and each is read by its own bytes.
use Rattle.std.specs.Prelude.{◌≡◌, refl, All, List, [], ◌∷◌, ◌++◌, ℕ, suc, ◌+◌, ◌*◌, ◌/◌, ◌%◌, ◌<◌, length, get_or}
use Rattle.std.proofs.Common.{sym, ap, ap₂, ◌∙◌, arith, length-append}
use Rattle.std.proofs.lemmas.List.{get_or_append_left, get_or-append-add}
use Rattle.field.specs.Field.{two, pair_at}
use Rattle.field.specs.Laws.{two-pair}
use Rattle.state_form.specs.Items.{each, items}

-- The bytes v stand in s, from a place on.
abbrev pub Stands : List ℕ → List ℕ → ℕ → Type 0
Stands v s at = (k : ℕ) → k < length v → get_or s (at + k) 0 ≡ get_or v k 0

pub whole_stands : (s : List ℕ) → Stands s s 0
whole_stands s k h = let e : 0 + k ≡ k = omega arith in ap (λ (i : ℕ). get_or s i 0) e

-- ---- parts

module _ (v w s : List ℕ) (at : ℕ) (h : Stands (v ++ w) s at) where
  pub first_stands : Stands v s at
  first_stands k l = h k (omega (arith, length-append v w, l)) ∙ get_or_append_left v w 0 k l

  pub second_stands : (next : ℕ) → next ≡ at + length v → Stands w s next
  second_stands next e k l =
      let p : next + k ≡ at + (length v + k) = omega (arith, e) in
      ap (λ (i : ℕ). get_or s i 0) p ∙ h (length v + k) (omega (arith, length-append v w, l)) ∙ get_or-append-add v w k 0

-- What stands behind the first n bytes of them all.
pub behind_stands : (v w s : List ℕ) (n : ℕ) → length v ≡ n → Stands (v ++ w) s 0 → Stands w s n
behind_stands v w s n e h = second_stands v w s 0 h n (omega (arith, e))

-- ---- numbers

pub byte_stands : (x : ℕ) (v s : List ℕ) (at : ℕ) → Stands (x ∷ v) s at → get_or s at 0 ≡ x
byte_stands x v s at h = let p : at ≡ at + 0 = omega arith in ap (λ (i : ℕ). get_or s i 0) p ∙ h 0 (omega arith)

pub pair_stands : (n : ℕ) (s : List ℕ) (at : ℕ) → Stands (two n) s at → pair_at s at ≡ n
pair_stands n s at h =
    ap₂ (λ (x y : ℕ). x * 256 + y) (byte_stands (n / 256) (n % 256 ∷ []) s at h) (h 1 (omega arith))
    ∙ two-pair n

-- ---- lists of items

first_fits : {A : Type 0} (Fits : A → Type 0) (x : A) (xs : List A) → All Fits (x ∷ xs) → Fits x
first_fits Fits x xs a = a 0 x (omega arith)

others_fit : {A : Type 0} (Fits : A → Type 0) (x : A) (xs : List A) → All Fits (x ∷ xs) → All Fits xs
others_fit Fits x xs a k d h = a (suc k) d (omega (arith, h))

pub items_stand : {A : Type 0} (bytes : A → List ℕ) (read : List ℕ → ℕ → A) (w : ℕ) (Fits : A → Type 0) (s : List ℕ)
    → ((x : A) → Fits x → length (bytes x) ≡ w)
    → ((x : A) (at : ℕ) → Fits x → Stands (bytes x) s at → read s at ≡ x)
    → (xs : List A) (at : ℕ) → All Fits xs → Stands (each bytes xs) s at → items read w (length xs) s at ≡ xs
items_stand bytes read w Fits s long back [] at a h = refl
items_stand bytes read w Fits s long back (x ∷ xs) at a h =
    ap₂ (λ y ys. y ∷ ys)
    (back x at (first_fits Fits x xs a) (first_stands (bytes x) (each bytes xs) s at h))
    (items_stand bytes read w Fits s long back xs (at + w) (others_fit Fits x xs a)
    (second_stands (bytes x) (each bytes xs) s at h (at + w) (ap (λ (k : ℕ). at + k) (sym (long x (first_fits Fits x xs a))))))

-- As many as there have to be.
pub all_stand : {A : Type 0} (bytes : A → List ℕ) (read : List ℕ → ℕ → A) (w : ℕ) (Fits : A → Type 0) (s : List ℕ)
    → ((x : A) → Fits x → length (bytes x) ≡ w)
    → ((x : A) (at : ℕ) → Fits x → Stands (bytes x) s at → read s at ≡ x)
    → (xs : List A) (n at : ℕ) → length xs ≡ n → All Fits xs → Stands (each bytes xs) s at → items read w n s at ≡ xs
all_stand bytes read w Fits s long back xs n at e a h =
    ap (λ (k : ℕ). items read w k s at) (sym e) ∙ items_stand bytes read w Fits s long back xs at a h

pub each-length : {A : Type 0} (bytes : A → List ℕ) (w : ℕ) (Fits : A → Type 0) → ((x : A) → Fits x → length (bytes x) ≡ w)
    → (xs : List A) → All Fits xs → length (each bytes xs) ≡ w * length xs
each-length bytes w Fits long [] a = grind arith
each-length bytes w Fits long (x ∷ xs) a =
    let m : w * suc (length xs) ≡ w + w * length xs = grind arith in
    omega (arith, length-append (bytes x) (each bytes xs), long x (first_fits Fits x xs a), each-length bytes w Fits long xs (others_fit Fits x xs a), m)
