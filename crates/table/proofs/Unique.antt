-- One outcome: any two results that a contract of this crate allows are equal; of a part of a table that is lent out, its content.
-- Each contract is one equation of the result, or of its number, and a number has one word.
use Rattle.std.proofs.Common.{◌≡◌, sym, ◌∙◌}
use Rattle.table.proofs.Numbers.{in_numbers_once, judged_once}
use Rattle.table.proofs.U8FromRefusal.from.Reads as number
use Rattle.table.proofs.TableDefault.default.Reads as table_of_zeros
use Rattle.table.proofs.JobDefault.default.Reads as job_of_zeros
use Rattle.table.proofs.shape.Reads as shape
use Rattle.table.proofs.Table.listed_units.Reads as listed_units
use Rattle.table.proofs.Table.listed_jobs.Reads as listed_jobs
use Rattle.table.proofs.Table.largest_frames.Reads as largest_frames
use Rattle.table.proofs.Table.worst_stack.Reads as worst_stack
use Rattle.table.proofs.Table.judge.Reads as judge

pub number_agrees : (κs : _) (a : _) (r₁ r₂ : _) (x₁ x₂ : _) → number.Post κs a r₁ x₁ → number.Post κs a r₂ x₂ → r₁ ≡ r₂
number_agrees κs a r₁ r₂ x₁ x₂ p q = p ∙ sym q

pub table_of_zeros_agrees : (κs : _) (a : _) (r₁ r₂ : _) (x₁ x₂ : _) → table_of_zeros.Post κs a r₁ x₁ → table_of_zeros.Post κs a r₂ x₂ → r₁ ≡ r₂
table_of_zeros_agrees κs a r₁ r₂ x₁ x₂ p q = p ∙ sym q

pub job_of_zeros_agrees : (κs : _) (a : _) (r₁ r₂ : _) (x₁ x₂ : _) → job_of_zeros.Post κs a r₁ x₁ → job_of_zeros.Post κs a r₂ x₂ → r₁ ≡ r₂
job_of_zeros_agrees κs a r₁ r₂ x₁ x₂ p q = p ∙ sym q

pub shape_agrees : (κs : _) (a : _) (r₁ r₂ : _) (x₁ x₂ : _) → shape.Post κs a r₁ x₁ → shape.Post κs a r₂ x₂ → r₁ ≡ r₂
shape_agrees κs a r₁ r₂ x₁ x₂ p q = p.0 ∙ sym q.0

pub listed_units_agrees : (κs : _) (a : _) (r₁ r₂ : _) (x₁ x₂ : _) → listed_units.Post κs a r₁ x₁ → listed_units.Post κs a r₂ x₂ → r₁.now ≡ r₂.now
listed_units_agrees κs a r₁ r₂ x₁ x₂ p q = p ∙ sym q

pub listed_jobs_agrees : (κs : _) (a : _) (r₁ r₂ : _) (x₁ x₂ : _) → listed_jobs.Post κs a r₁ x₁ → listed_jobs.Post κs a r₂ x₂ → r₁.now ≡ r₂.now
listed_jobs_agrees κs a r₁ r₂ x₁ x₂ p q = p ∙ sym q

pub largest_frames_agrees : (κs : _) (a : _) (r₁ r₂ : _) (x₁ x₂ : _) → largest_frames.Post κs a r₁ x₁ → largest_frames.Post κs a r₂ x₂ → r₁ ≡ r₂
largest_frames_agrees κs a r₁ r₂ x₁ x₂ p q = p ∙ sym q

pub worst_stack_agrees : (κs : _) (a : _) (r₁ r₂ : _) (x₁ x₂ : _) → worst_stack.Post κs a r₁ x₁ → worst_stack.Post κs a r₂ x₂ → r₁ ≡ r₂
worst_stack_agrees κs a r₁ r₂ x₁ x₂ p q = in_numbers_once r₁ r₂ (p ∙ sym q)

pub judge_agrees : (κs : _) (a : _) (r₁ r₂ : _) (x₁ x₂ : _) → judge.Post κs a r₁ x₁ → judge.Post κs a r₂ x₂ → r₁ ≡ r₂
judge_agrees κs a r₁ r₂ x₁ x₂ p q = judged_once r₁ r₂ (p ∙ sym q)
