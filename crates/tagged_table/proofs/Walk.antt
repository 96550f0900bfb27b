-- Reading from a place on, with no count of fields: the first bad field refuses, the end field ends, any other field is read on behind.
-- Each good field takes three bytes at least, so any count above the bytes that are left gives the same answer.
use Rattle.std.specs.Prelude.{◌≡◌, refl, Bool, true, false, List, ℕ, zero, suc, ◌+◌, ◌≤◌, ◌<◌, length, drop, eqb}
use Rattle.std.proofs.Common.{ap, ◌∙◌, arith, length-drop, ne_eqb}
use Rattle.rules.specs.Choice.{pick}
use Rattle.table.specs.Refusals.{refused_at, or_refused}
use Rattle.field.specs.Field.{tag_of, length_of, framed}
use Rattle.field.proofs.Framed.{Framed, is_framed}
use Rattle.tagged_table.specs.Form.{Sofar, nothing, stands, wants, good, grown, or_else, judged, Reading, ended, step, read_fields, table_reading}

-- ---- a good field

-- What is known of a field that may stand where it is due.
abbrev pub FramedAt : Sofar → List ℕ → Type 0
FramedAt p b = Framed (stands p) (wants p) b

both_zero : (n : ℕ) (g : Bool) → or_else n (pick g 0 4) ≡ 0 → (n ≡ 0) × (g ≡ true)
both_zero zero true e = (refl, refl)
both_zero zero false e = absurd (omega arith)
both_zero (suc n) g e = absurd (omega arith)

module _ (p : Sofar) (b : List ℕ) where
  pub judged_framed : judged p b ≡ 0 → FramedAt p b
  unfolding judged
  judged_framed e = is_framed (stands p) (wants p) b (both_zero (framed (stands p) (wants p) b) (good p (tag_of b) (drop 3 b)) e).0

  pub judged_good : judged p b ≡ 0 → good p (tag_of b) (drop 3 b) ≡ true
  unfolding judged
  judged_good e = (both_zero (framed (stands p) (wants p) b) (good p (tag_of b) (drop 3 b)) e).1

-- ---- reading from a place on

-- What is known behind the field at the front of b, and what is left there.
abbrev pub grown_by : Sofar → List ℕ → Sofar
grown_by p b = grown p (tag_of b) (drop 3 b)

abbrev pub left_behind : List ℕ → List ℕ
left_behind b = drop (3 + length_of b) b

-- Reading the bytes b, which stand at `at`, when p has been read so far.
unfoldable pub reading_from : Sofar → List ℕ → ℕ → Reading
reading_from p b at = read_fields (suc (length b)) p b at

module _ (p : Sofar) (b : List ℕ) (at : ℕ) where
  -- Two ways to read on that agree behind a good field.
  step_same : (g h : Sofar → List ℕ → ℕ → Reading)
      → (3 ≤ length b → g (grown_by p b) (left_behind b) (at + (3 + length_of b)) ≡ h (grown_by p b) (left_behind b) (at + (3 + length_of b)))
      → step p b at g ≡ step p b at h
  step_same g h e = go (judged p b) refl
    where
      go : (n : ℕ) → judged p b ≡ n
          → or_refused n at (pick (eqb (tag_of b) 5) (ended p (at + 3)) (g (grown_by p b) (left_behind b) (at + (3 + length_of b))))
          ≡ or_refused n at (pick (eqb (tag_of b) 5) (ended p (at + 3)) (h (grown_by p b) (left_behind b) (at + (3 + length_of b))))
      go zero q = ap (pick (eqb (tag_of b) 5) (ended p (at + 3))) (e (judged_framed p b q).long)
      go (suc n) q = refl

enough : (f g : ℕ) (p : Sofar) (b : List ℕ) (at : ℕ) → length b < f → length b < g → read_fields f p b at ≡ read_fields g p b at
unfolding read_fields
enough zero g p b at h k = absurd (omega arith)
enough (suc f) zero p b at h k = absurd (omega arith)
enough (suc f) (suc g) p b at h k =
    step_same p b at (read_fields f) (read_fields g)
    (λ l. enough f g (grown_by p b) (left_behind b) (at + (3 + length_of b)) (simp length-drop (omega arith)) (simp length-drop (omega arith)))

unroll : (p : Sofar) (b : List ℕ) (at : ℕ) → reading_from p b at ≡ step p b at reading_from
unfolding reading_from read_fields
unroll p b at =
    step_same p b at (read_fields (length b)) reading_from
    (λ l.
    enough (length b) (suc (length (left_behind b))) (grown_by p b) (left_behind b) (at + (3 + length_of b)) (simp length-drop (omega arith)) (omega arith))

pub whole : (s : List ℕ) → table_reading s ≡ reading_from nothing s 0
unfolding table_reading reading_from
whole s = refl

-- ---- what the field at the front leads to

module _ (p : Sofar) (b : List ℕ) (at : ℕ) where
  pub from_bad : (n : ℕ) → judged p b ≡ suc n → reading_from p b at ≡ refused_at (suc n) at
  from_bad n e = unroll p b at ∙ simp e

  pub from_end : judged p b ≡ 0 → tag_of b ≡ 5 → reading_from p b at ≡ ended p (at + 3)
  from_end e t = unroll p b at ∙ simp (e, t)

  pub from_next : judged p b ≡ 0 → (tag_of b ≡ 5 → ⊥)
      → reading_from p b at ≡ reading_from (grown_by p b) (left_behind b) (at + (3 + length_of b))
  from_next e t = unroll p b at ∙ simp (e, ne_eqb (tag_of b) 5 t)
