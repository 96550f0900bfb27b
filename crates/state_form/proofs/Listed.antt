-- One item more of a list that is stored or read, each in w bytes.
-- A list from place i on is its item there and then what follows; and w bytes for each of i items, and w more, are w for each of i + 1.
use Rattle.std.specs.Prelude.{◌≡◌, refl, Bool, true, false, ltb, List, [], ◌∷◌, ◌++◌, ℕ, suc, ◌+◌, ◌-◌, ◌*◌, ◌≤◌, ◌<◌, length, get_or, take, drop, set}
use Rattle.std.proofs.Common.{ltb-true, ltb-false, sym, ap, ◌∙◌, arith, length-append, append_assoc}
use Rattle.std.proofs.lemmas.List.{get_or_default, drop_more, take_more_set}
use Rattle.std.proofs.lemmas.List.Edits.{sets}
use Rattle.field.proofs.Stores.{sets_next}
use Rattle.state_form.specs.Items.{each, items}

-- ---- places

pub place_more : (at w i : ℕ) → at + w * i + w ≡ at + w * (i + 1)
place_more at w i = grind arith

pub room_more : (w i n : ℕ) → i < n → w * i + w ≤ w * n
room_more w i n h = let k = n - (i + 1) in let e : n ≡ i + 1 + k = omega arith in rw e (let f : w * (i + 1 + k) ≡ w * i + w + w * k = grind arith in omega (arith, f))

pub long_more : (whole w i more left : ℕ) → whole ≡ w * i + more → more ≡ w + left → whole ≡ w * (i + 1) + left
long_more whole w i more left e f = let g : w * (i + 1) ≡ w * i + w = grind arith in omega (arith, e, f, g)

-- ---- storing

module _ {A : Type 0} (bytes : A → List ℕ) (w : ℕ) (xs : List A) (i : ℕ) (x : A) (h : i < length xs) (is : x ≡ get_or xs i x) (l : length (bytes x) ≡ w) where
  -- Each of the first i takes w bytes, and so does this one.
  pub widths_more : ((k : ℕ) (d : A) → k < i → length (bytes (get_or xs k d)) ≡ w) → (k : ℕ) (d : A) → k < i + 1 → length (bytes (get_or xs k d)) ≡ w
  widths_more all k d m = go (ltb k i) refl
    where
      go : (b : Bool) → ltb k i ≡ b → length (bytes (get_or xs k d)) ≡ w
      go true e = all k d (ltb-true k i e)
      go false e =
          let j : k ≡ i = omega (arith, m, ltb-false k i e) in
          ap (λ (n : ℕ). length (bytes (get_or xs n d))) j ∙ ap (λ (y : A). length (bytes y)) (get_or_default xs i d x h ∙ sym is) ∙ l

  one_more : each bytes (drop i xs) ≡ bytes x ++ each bytes (drop (i + 1) xs)
  one_more = ap (each bytes) (drop_more xs i x h) ∙ ap (λ (y : A). bytes y ++ each bytes (drop (i + 1) xs)) (sym is)

  pub each_long : length (each bytes (drop i xs)) ≡ w + length (each bytes (drop (i + 1) xs))
  each_long =
      ap length one_more
      ∙ length-append (bytes x) (each bytes (drop (i + 1) xs))
      ∙ ap (λ (k : ℕ). k + length (each bytes (drop (i + 1) xs))) l

  pub each_more : (out new : List ℕ) (at : ℕ) → new ≡ sets out at (bytes x)
      → sets new (at + w) (each bytes (drop (i + 1) xs)) ≡ sets out at (each bytes (drop i xs))
  each_more out new at e =
      ap (λ (o : List ℕ). sets o (at + w) (each bytes (drop (i + 1) xs))) e
      ∙ sets_next out at (at + w) (bytes x) (each bytes (drop (i + 1) xs)) (ap (λ (k : ℕ). at + k) (sym l))
      ∙ ap (sets out at) (sym one_more)

-- ---- reading

pub items_more : {A : Type 0} (read : List ℕ → ℕ → A) (w : ℕ) (s : List ℕ) (at n i : ℕ) (xs : List A) → i < n → length xs ≡ n
    → take (i + 1) (set xs i (read s at)) ++ items read w (n - (i + 1)) s (at + w) ≡ take i xs ++ items read w (n - i) s at
items_more read w s at n i xs h l =
    let k : n - i ≡ suc (n - (i + 1)) = omega arith in
    rw (take_more_set xs i (read s at) (omega arith), k)
    (append_assoc (take i xs) (read s at ∷ []) (items read w (n - (i + 1)) s (at + w)))
