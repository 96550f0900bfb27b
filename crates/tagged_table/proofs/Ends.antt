-- What is known where reading took some bytes: it went from good field to good field, up to an end field behind which the stack was enough.
-- What holds at the start, and behind a good field if it did before it, holds at that end field: by the number of bytes that are left.
use Rattle.std.specs.Prelude.{◌≡◌, refl, Bool, true, false, List, ℕ, zero, suc, ◌+◌, ◌-◌, ◌≤◌, ◌<◌, length, drop, eqb}
use Rattle.std.proofs.Common.{ap, sym, subst, ◌∙◌, arith, length-drop, eqb-true}
use Rattle.std.proofs.lemmas.Bool.{eqb-false}
use Rattle.std.proofs.Math.Seq.{drop-drop}
use Rattle.std.proofs.lemmas.Bool.Decides.{nat_tests}
use Rattle.rules.specs.Choice.{pick}
use Rattle.rules.specs.Limits.{max_jobs, max_resources}
use Rattle.rules.specs.Table.{Table, stack_good}
use Rattle.rules.proofs.Choices.{pick_case}
use Rattle.table.specs.Refusals.{refused_at}
use Rattle.field.specs.Field.{tag_of, length_of}
use Rattle.tagged_table.specs.Form.{by_tag, Sofar, nothing, stands, judged, took, ended, table_reading}
use Rattle.tagged_table.proofs.Walk.{judged_framed, grown_by, reading_from, from_bad, from_end, from_next, whole}

-- ---- which tag stands where

-- What holds of a choice by tag holds of each entry at its tag.
pub tag_case : {A : Type 0} (P : A → Type 0) (tag : ℕ) (a b c d e other : A)
    → (tag ≡ 1 → P a) → (tag ≡ 2 → P b) → (tag ≡ 3 → P c) → (tag ≡ 4 → P d) → (tag ≡ 5 → P e) → P other
    → P (by_tag tag a b c d e other)
tag_case P tag a b c d e other f g h i j k =
    pick_case P (eqb tag 1) _ _ (λ q. f (eqb-true tag 1 q)) (λ z.
    pick_case P (eqb tag 2) _ _ (λ q. g (eqb-true tag 2 q)) (λ z.
    pick_case P (eqb tag 3) _ _ (λ q. h (eqb-true tag 3 q)) (λ z.
    pick_case P (eqb tag 4) _ _ (λ q. i (eqb-true tag 4 q)) (λ z.
    pick_case P (eqb tag 5) _ _ (λ q. j (eqb-true tag 5 q)) (λ z. k)))))

pub data Stands (p : Sofar) : ℕ → Type 0 where
  at_version : p.last ≡ 0 → Stands p 1
  at_size : p.last ≡ 1 → Stands p 2
  at_resource : 2 ≤ p.last → p.last ≤ 3 → length p.table.units < max_resources → Stands p 3
  at_job : 2 ≤ p.last → length p.table.jobs < max_jobs → Stands p 4
  at_end : p.last ≡ 4 → Stands p 5

pub is_standing : (p : Sofar) (tag : ℕ) → stands p tag ≡ true → Stands p tag
unfolding stands
is_standing p tag =
    tag_case (λ (b : Bool). b ≡ true → Stands p tag) tag _ _ _ _ _ _
    (λ q h. subst (Stands p) (sym q) (at_version (grind (arith, nat_tests))))
    (λ q h. subst (Stands p) (sym q) (at_size (grind (arith, nat_tests))))
    (λ q h. subst (Stands p) (sym q) (at_resource (grind (arith, nat_tests)) (grind (arith, nat_tests)) (grind (arith, nat_tests))))
    (λ q h. subst (Stands p) (sym q) (at_job (grind (arith, nat_tests)) (grind (arith, nat_tests))))
    (λ q h. subst (Stands p) (sym q) (at_end (grind (arith, nat_tests))))
    (λ h. absurd (grind arith))

-- ---- the end field

ended_took : (p : Sofar) (at n : ℕ) (t : Table) → ended p at ≡ took n t → (at ≡ n) × (p.table ≡ t) × (stack_good p.table ≡ true)
unfolding ended
ended_took p at n t = go (stack_good p.table) refl
  where
    go : (b : Bool) → stack_good p.table ≡ b → pick b (took at p.table) (refused_at 5 at) ≡ took n t
        → (at ≡ n) × (p.table ≡ t) × (stack_good p.table ≡ true)
    go true q e = let i : (at, p.table) ≡ (n, t) = cc in (ap (λ (x : ℕ × Table). x.0) i, ap (λ (x : ℕ × Table). x.1) i, q)
    go false q e = absurd (cc)

-- The end field of a reading of s that took n bytes and the table t, with what is kept of what was read before it and of its place.
pub record EndField (s : List ℕ) (Kept : Sofar → ℕ → Type 0) (n : ℕ) (t : Table) : Type 0 where
  pub before : Sofar
  pub place : ℕ
  pub kept : Kept before place
  pub fits : judged before (drop place s) ≡ 0
  pub tag : tag_of (drop place s) ≡ 5
  pub end : place + 3 ≡ n
  pub table : before.table ≡ t
  pub stack : stack_good t ≡ true

-- A good field keeps it.
abbrev pub KeptOn : List ℕ → (Sofar → ℕ → Type 0) → Type 0
KeptOn s Kept =
    (p : Sofar) (at : ℕ) → Kept p at → judged p (drop at s) ≡ 0 → (tag_of (drop at s) ≡ 5 → ⊥)
    → Kept (grown_by p (drop at s)) (at + (3 + length_of (drop at s)))

module _ (s : List ℕ) (Kept : Sofar → ℕ → Type 0) (on : KeptOn s Kept) (n : ℕ) (t : Table) where
  abbrev Ends : ℕ → Type 0
  Ends f = (p : Sofar) (at : ℕ) → length s - at < f → Kept p at → reading_from p (drop at s) at ≡ took n t → EndField s Kept n t

  ends_by : (f : ℕ) → Ends f → Ends (suc f)
  ends_by f later p at h k e = go (judged p (drop at s)) refl (eqb (tag_of (drop at s)) 5) refl
    where
      go : (m : ℕ) → judged p (drop at s) ≡ m → (x : Bool) → eqb (tag_of (drop at s)) 5 ≡ x → EndField s Kept n t
      go (suc m) q x r = let z = from_bad p (drop at s) at m q in absurd (cc)
      go zero q true r =
          let i = eqb-true (tag_of (drop at s)) 5 r in
          let u = ended_took p (at + 3) n t (sym (from_end p (drop at s) at q i) ∙ e) in
          record { before = p; place = at; kept = k; fits = q; tag = i; end = u.0; table = u.1; stack = ap stack_good (sym u.1) ∙ u.2 }
      go zero q false r =
          let b = drop at s in
          let m = 3 + length_of b in
          let i = eqb-false (tag_of b) 5 r in
          let l : 3 ≤ length s - at = simp length-drop at (judged_framed p b q).long in
          later (grown_by p b) (at + m) (omega arith) (on p at k q i)
          (ap (λ (x : List ℕ). reading_from (grown_by p b) x (at + m)) (sym (drop-drop m at s)) ∙ sym (from_next p b at q i) ∙ e)

  ends : (f : ℕ) → Ends f
  ends zero p at h k e = absurd (omega arith)
  ends (suc f) p at h k e = ends_by f (ends f) p at h k e

  pub end_field : Kept nothing 0 → table_reading s ≡ took n t → EndField s Kept n t
  end_field k e = ends (suc (length s)) nothing 0 (omega arith) k (sym (whole s) ∙ e)

-- Reading takes bytes that are there.
pub read_within : (s : List ℕ) (n : ℕ) (t : Table) → table_reading s ≡ took n t → n ≤ length s
read_within s n t e =
    let f = end_field s (λ p at. Unit) (λ p at k j i. tt) n t tt e in
    let l : 3 ≤ length s - f.place = simp length-drop at (judged_framed f.before (drop f.place s) f.fits).long in
    omega (arith, f.end)
