-- docs/RULES.md, "Refusal numbers": what is read from a state. One that isn't well formed gives 10.
use Rattle.std.specs.Prelude.{[], ◌∷◌, ℕ, length, Result, Ok, Err, Option}
use Rattle.std.proofs.Math.Option as maybe
use Rattle.rules.specs.Choice.{first_bad}
use Rattle.rules.specs.Table.{job_count}
use Rattle.rules.specs.State.{free_in, running}
use Rattle.rules.specs.Ceilings.{ceiling, system_ceiling}
use Rattle.rules.specs.Events.{no_such_resource}
use Rattle.rules.specs.Waiting.{waiting_word}
use Rattle.table.specs.declared.JobNo.{JobNo}
use Rattle.table.specs.declared.Level.{Level}
use Rattle.table.specs.declared.Refusal.{Refusal}
use Rattle.table.specs.Arrays.{table_of}
use Rattle.table.specs.Refusals.{number_of, when_fit}
use Rattle.station.specs.declared.State.{State}
use Rattle.station.specs.Arrays.{state_of, who}
use Rattle.station.specs.WellFormed.{not_well_formed}

-- 10, or else the answer.
abbrev pub if_well_formed : {A : Type 0} → State → A → Result A ℕ
if_well_formed s x = when_fit (first_bad (not_well_formed s ∷ [])) x

-- The ceiling of a resource: 10, then 15 for one that is not listed.
unfoldable pub ceiling_answer : State → ℕ → Result ℕ ℕ
ceiling_answer s r =
    when_fit
    (first_bad (not_well_formed s ∷ no_such_resource (table_of s.table) r ∷ []))
    (ceiling (table_of s.table) r (free_in (table_of s.table) (state_of s).stack r))

-- The system ceiling.
unfoldable pub system_ceiling_answer : State → Result ℕ ℕ
system_ceiling_answer s = if_well_formed s (system_ceiling (table_of s.table) (state_of s).stack)

-- The running job, if any.
unfoldable pub running_answer : State → Result (maybe.Option ℕ) ℕ
running_answer s = if_well_formed s (running (state_of s).stack)

-- The number waiting.
unfoldable pub waiting_answer : State → Result ℕ ℕ
waiting_answer s = if_well_formed s (length (state_of s).waiting)

-- The waiting word.
unfoldable pub word_answer : State → Result ℕ ℕ
word_answer s = if_well_formed s (waiting_word (job_count (table_of s.table)) (state_of s).waiting)

-- ---- answers in numbers

-- An answer that is a level, or 0.
abbrev pub level_said : Result Level Refusal → Result ℕ ℕ
level_said (Ok l) = Ok l.0
level_said (Err r) = Err (number_of r)

-- An answer that is a job or none.
abbrev pub job_said : Result (Option JobNo) Refusal → Result (maybe.Option ℕ) ℕ
job_said (Ok j) = Ok (who j)
job_said (Err r) = Err (number_of r)
