-- A sequence of events, applied one after the other to a state: what is lent to each, what is answered, and the states that are left.
use Rattle.std.specs.Prelude.{◌≡◌, List, ℕ, zero, suc, ◌+◌, length, Result, Ok, Err, Option}
use Rattle.std.proofs.Math.Option as maybe
use Rattle.rules.specs.Choice.{pick}
use Rattle.rules.specs.Demand3.{is_job}
use Rattle.table.specs.declared.JobNo.{JobNo}
use Rattle.table.specs.declared.Refusal.{Refusal}
use Rattle.tagged_event.specs.declared.Event.{Event}
use Rattle.tagged_event.specs.Answers.{event_of}
use Rattle.station.specs.declared.State.{State}
use Rattle.station.specs.Arrays.{who}
use Rattle.station.specs.Reading.{job_said}
use Rattle.station.specs.Applying.{answer, state_after}

-- What `apply` answers and leaves, for a state s, a stack memory m and an event e.
pub record Applied (s : State) (m : List ℕ) (e : Event) (result : Result (Option JobNo) Refusal) (after : State) : Type 0 where
  pub answered : job_said result ≡ answer s (length m) (event_of e)
  pub left : after ≡ state_after s (length m) (event_of e)

-- Events are applied one after the other, the first to the state s. What stands in the stack memory between them is the caller's matter.
pub record Sequence (s : State) : Type 0 where
  pub events : ℕ → Event
  pub memories : ℕ → List ℕ
  pub answers : ℕ → Result (Option JobNo) Refusal
  pub states : ℕ → State
  pub begins : states 0 ≡ s
  pub applies : (m : ℕ) → Applied (states m) (memories m) (events m) (answers m) (states (suc m))

-- The job that an answer names as started, if any.
abbrev pub started_in : Result (Option JobNo) Refusal → maybe.Option ℕ
started_in (Ok j) = who j
started_in (Err r) = maybe.none

-- An activation of job j lasts from one start of it to the next: its number is how often the first m answers named job j as started.
unfoldable pub activation : (ℕ → Result (Option JobNo) Refusal) → ℕ → ℕ → ℕ
activation answers j zero = 0
activation answers j (suc m) = activation answers j m + pick (is_job j (started_in (answers m))) 1 0
