-- docs/RULES.md, "Refusal numbers": applying an event to a state and the stack memory.
use Rattle.std.specs.Prelude.{◌≡◌, not, List, ◌∷◌, ℕ, true, length, eqb, Result, Ok, Err, Option, Some, None, ⊤}
use Rattle.std.proofs.Math.Option as maybe
use Rattle.rules.specs.Choice.{pick, Check, refuse, first_bad}
use Rattle.rules.specs.Ceilings.{system_ceiling}
use Rattle.rules.specs.Events as R
use Rattle.rules.specs.Memory as M
use Rattle.table.specs.Arrays.{table_of}
use Rattle.table.specs.Refusals.{number_of, when_fit}
use Rattle.table.specs.declared.JobNo.{JobNo}
use Rattle.table.specs.declared.Refusal.{Refusal}
use Rattle.station.specs.declared.start.Tested.{Tested}
use Rattle.station.specs.declared.State.{State}
use Rattle.station.specs.Arrays.{state_of, arrays_of, who}
use Rattle.station.specs.WellFormed.{well_formed, not_well_formed}

-- 11: the stack memory's length, n, is not the stack size.
abbrev pub wrong_memory : State → ℕ → Check
wrong_memory s n = refuse (not (eqb n s.table.size)) 11

-- The refusal number of an event with a stack memory of n bytes: 10, 11, then the event's own; 0 if it is accepted.
unfoldable pub refusal : State → ℕ → R.Event → ℕ
refusal s n e = first_bad (not_well_formed s ∷ wrong_memory s n ∷ R.checks (table_of s.table) (state_of s) e)

-- The answer: the refusal's number, or the job started, if any.
unfoldable pub answer : State → ℕ → R.Event → Result (maybe.Option ℕ) ℕ
answer s n e = when_fit (refusal s n e) (R.started_by (table_of s.table) (state_of s) e)

-- The state after the event; a refused state comes back equal.
unfoldable pub state_after : State → ℕ → R.Event → State
state_after s n e = pick (eqb (refusal s n e) 0) (arrays_of s.table (R.after (table_of s.table) (state_of s) e)) s

-- The stack memory after the event; a refused event changes none of it.
unfoldable pub memory_after : State → List ℕ → R.Event → List ℕ
memory_after s m e = pick (eqb (refusal s (length m) e) 0) (M.memory_after (table_of s.table) (state_of s) e m) m

-- ---- the parts of applying, on a well-formed state and a stack memory of the right length

-- The state as an accepted event has left it, before any start test; a refused event changes nothing.
unfoldable pub changed : State → R.Event → State
changed s e = pick (eqb (R.refusal (table_of s.table) (state_of s) e) 0) (arrays_of s.table (R.change (table_of s.table) (state_of s) e)) s

-- The job that a start test started, where one was made.
abbrev pub job_started : Option Tested → Option JobNo
job_started None = None
job_started (Some x) = x.started

-- The answer, by what the start test answered where one was made.
abbrev pub step_said : Result (Option Tested) Refusal → Result (maybe.Option ℕ) ℕ
step_said (Ok x) = Ok (who (job_started x))
step_said (Err r) = Err (number_of r)

-- Where a start test was made, its system ceiling is n.
abbrev pub CeilingIs : ℕ → Result (Option Tested) Refusal → Type 0
CeilingIs n (Ok None) = ⊤
CeilingIs n (Ok (Some x)) = x.ceiling.0 ≡ n
CeilingIs n (Err r) = ⊤

-- One event: the answer, the system ceiling where a start test was made, and the state after it, which is well formed.
pub record Stepped (s : State) (e : R.Event) (result : Result (Option Tested) Refusal) (after : State) : Type 0 where
  pub answer_is : step_said result ≡ when_fit (R.refusal (table_of s.table) (state_of s) e) (R.started_by (table_of s.table) (state_of s) e)
  pub ceiling_is : CeilingIs (system_ceiling (table_of s.table) (R.after (table_of s.table) (state_of s) e).stack) result
  pub state_is : after ≡ pick (eqb (R.refusal (table_of s.table) (state_of s) e) 0) (arrays_of s.table (R.after (table_of s.table) (state_of s) e)) s
  pub view_is : state_of after ≡ R.after (table_of s.table) (state_of s) e
  pub table_is : after.table ≡ s.table
  pub formed : well_formed after ≡ true
