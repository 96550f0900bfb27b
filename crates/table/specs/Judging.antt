-- docs/RULES.md, "Refusal numbers": the judging of a table that is held in arrays. Counts out of range 2, then 4 (entries past a count
-- that are not zero included), then 5.
use Rattle.std.specs.Prelude.{Bool, not, ◌&&◌, [], ◌∷◌, ℕ, take, drop, eqb, Result, Ok, Err}
use Rattle.rules.specs.Choice.{refuse, first_bad}
use Rattle.rules.specs.Counting.{every}
use Rattle.rules.specs.Table.{counts_good, values_good, stack_good, table_checks, worst}
use Rattle.table.specs.declared.Job.{Job}
use Rattle.table.specs.declared.Table.{Table}
use Rattle.table.specs.declared.Refusal.{Refusal}
use Rattle.table.specs.Refusals.{number_of, when_fit}
use Rattle.table.specs.Arrays.{table_of}

-- Is the entry zero?
abbrev pub is_zero : ℕ → Bool
is_zero n = eqb n 0

-- A listed job: its needs past the resource count are zero.
abbrev pub needs_blank : ℕ → Job → Bool
needs_blank m j = every is_zero (drop m j.needs)

-- A place past the job count: all zero.
abbrev pub job_blank : Job → Bool
job_blank j = is_zero j.level.0 && is_zero j.frame && every is_zero j.needs

-- Entries past a count are zero.
abbrev pub blank : Table → Bool
blank t =
    every is_zero (drop t.resource_count t.units)
    && every (needs_blank t.resource_count) (take t.job_count t.jobs)
    && every job_blank (drop t.job_count t.jobs)

-- Jobs 1 to 32, resources 0 to 8.
abbrev pub counts_fit : Table → Bool
counts_fit t = counts_good t.resource_count t.job_count

-- Each value is in its range, and entries past a count are zero.
abbrev pub values_fit : Table → Bool
values_fit t = values_good (table_of t) && blank t

-- The refusal of a table to be written: 2, 4 or 5, in that order; 0 if it could be written.
unfoldable pub table_judged : Table → ℕ
table_judged t = first_bad (table_checks (counts_fit t) (values_fit t) (stack_good (table_of t)))

-- The number of each judgement.
abbrev pub judged_number : Result (Unit {0}) Refusal → ℕ
judged_number (Ok u) = 0
judged_number (Err r) = number_of r

-- ---- asking a table's worst stack

-- Asking a table's worst stack gives 2 or 4, else the sum, even one above the stack size.
unfoldable pub worst_answer : Table → Result ℕ ℕ
worst_answer t = when_fit (first_bad (refuse (not (counts_fit t)) 2 ∷ refuse (not (values_fit t)) 4 ∷ [])) (worst (table_of t))
