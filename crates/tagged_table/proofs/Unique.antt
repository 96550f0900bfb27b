-- One outcome: any two results that a contract of this crate allows are equal, and for writing any two contents of the buffer.
-- The contracts say how reading ended in the rules' numbers, and each refusal has a number of its own.
use Rattle.std.specs.Prelude.{◌≡◌, ℕ, Result, Ok, Err}
use Rattle.std.proofs.Common.{ap, ap₂, sym, ◌∙◌}
use Rattle.table.specs.declared.RefusedAt.{RefusedAt}
use Rattle.table.specs.declared.Table.{Table}
use Rattle.table.proofs.Numbers.{refused_once, in_numbers_once}
use Rattle.tagged_table.specs.declared.TableRead.{TableRead}
use Rattle.tagged_table.specs.Form.{Reading}
use Rattle.tagged_table.specs.Answers.{end_said, Answers}
use Rattle.tagged_table.proofs.read.read_table.Reads as read_table
use Rattle.tagged_table.proofs.write.write_table.Reads as write_table

end_once : (r s : Result ℕ RefusedAt) → end_said r ≡ end_said s → r ≡ s
end_once (Ok m) (Ok n) e = cc
end_once (Ok m) (Err b) e = cc
end_once (Err a) (Ok n) e = cc
end_once (Err a) (Err b) e = ap Err (refused_once a b cc)

answer_once : (r s : TableRead) (x : Reading) → Answers r x → Answers s x → r ≡ s
answer_once r s x p q =
    ap₂ (λ (d : Result ℕ RefusedAt) (t : Table). record { end = d; table = t })
    (end_once r.end s.end (p.end ∙ sym q.end))
    (p.table ∙ sym q.table)

pub read_table_agrees : (κs : _) (a : _) (r₁ r₂ : _) (x₁ x₂ : _) → read_table.Post κs a r₁ x₁ → read_table.Post κs a r₂ x₂ → r₁ ≡ r₂
read_table_agrees κs a r₁ r₂ x₁ x₂ p q = answer_once r₁ r₂ _ p q

pub write_table_agrees : (κs : _) (a : _) (r₁ r₂ : _) (x₁ x₂ : _) → write_table.Post κs a r₁ x₁ → write_table.Post κs a r₂ x₂
    → (r₁ ≡ r₂) × (x₁.1.0.now ≡ x₂.1.0.now)
write_table_agrees κs a r₁ r₂ x₁ x₂ p q = (in_numbers_once r₁ r₂ (p.0 ∙ sym q.0), p.1 ∙ sym q.1)
