-- What is known of a byte by the tag that it is, and that a byte which is no tag may stand nowhere: the choice by the byte's number, case by
-- case.
use Rattle.std.specs.Prelude.{◌≡◌, refl, false, List, ℕ, Some, Result, Ok, Err}
use Rattle.std.proofs.Common.{sym, ap, ◌∙◌, subst, arith, ne_eqb}
use Rattle.field.specs.declared.Head.{Head}
use Rattle.field.specs.Parts.{head_at}
use Rattle.field.proofs.Walk.{HeadIs, head_is}
use Rattle.table.specs.declared.Refusal.{Refusal}
use Rattle.tagged_table.specs.declared.tag.Tag.{Tag}
use Rattle.tagged_table.specs.declared.tag.Tag.TheVariants.{Version, Size, Resource, Job, End}
use Rattle.tagged_table.specs.Form.{may_follow}
use Rattle.tagged_table.specs.Tags.{number_of_tag, tag_answer}
use Rattle.tagged_table.proofs.Outcome.{ok_not_err}
use Rattle.tagged_table.proofs.Ends.{tag_case}

ok_same : (t u : Tag) → ◌≡◌ {A = Result Tag Refusal} (Ok t) (Ok u) → t ≡ u
ok_same t u e = grind arith

pub tag_known : (byte : ℕ) (t : Tag) → Ok t ≡ tag_answer byte → number_of_tag t ≡ byte
tag_known byte t =
    tag_case (λ (r : Result Tag Refusal). Ok t ≡ r → number_of_tag t ≡ byte) byte _ _ _ _ _ _
    (λ q h. ap number_of_tag (ok_same t Version h) ∙ sym q)
    (λ q h. ap number_of_tag (ok_same t Size h) ∙ sym q)
    (λ q h. ap number_of_tag (ok_same t Resource h) ∙ sym q)
    (λ q h. ap number_of_tag (ok_same t Job h) ∙ sym q)
    (λ q h. ap number_of_tag (ok_same t End h) ∙ sym q)
    (λ h. absurd (ok_not_err t _ h))

pub no_tag_follows : (byte : ℕ) (r : Refusal) → Err r ≡ tag_answer byte → (last resources jobs : ℕ) → may_follow last resources jobs byte ≡ false
no_tag_follows byte r h last resources jobs =
    let other : (t : Tag) (n : ℕ) → byte ≡ n → tag_answer n ≡ Ok t → ⊥ =
    λ t n q e. ok_not_err t r (sym e ∙ ap tag_answer (sym q) ∙ sym h) in
    simp (
      ne_eqb byte 1 (λ q. other Version 1 q refl),
      ne_eqb byte 2 (λ q. other Size 2 q refl),
      ne_eqb byte 3 (λ q. other Resource 3 q refl),
      ne_eqb byte 4 (λ q. other Job 4 q refl),
      ne_eqb byte 5 (λ q. other End 5 q refl),
    )

pub end_known : (t : Tag) → number_of_tag t ≡ 5 → t ≡ End
end_known Version e = absurd (omega (arith, e))
end_known Size e = absurd (omega (arith, e))
end_known Resource e = absurd (omega (arith, e))
end_known Job e = absurd (omega (arith, e))
end_known End e = refl

-- A header whose first byte is a tag.
pub head_tagged : (s : List ℕ) (at : ℕ) (h : Head) (t : Tag) → Some h ≡ head_at s at → Ok t ≡ tag_answer h.tag → HeadIs s at (number_of_tag t) h.length
head_tagged s at h t e k = subst (λ (j : ℕ). HeadIs s at j h.length) (sym (tag_known h.tag t k)) (head_is s at h.tag h.length e)
