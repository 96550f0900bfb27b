-- Demand 3 of docs/RULES.md, of the states that the code leaves: three statements over any sequence of events from a fresh state, refused
-- events included. A moment is the state before an event, so after the one before it.
use Rattle.std.specs.Prelude.{◌≡◌, ◌≢◌, true, ℕ, ◌≤◌, ◌<◌, Err}
use Rattle.rules.specs.State.{is_running}
use Rattle.rules.specs.Demand3.{is_waiting, lower_runs, units_held}
use Rattle.table.specs.declared.Refusal.TheVariants.{AboveFree}
use Rattle.table.specs.Arrays.{table_of}
use Rattle.station.specs.declared.State.{State}
use Rattle.station.specs.Arrays.{state_of}
use Rattle.station.specs.Sequence.{Sequence, activation}

-- Job j waits.
abbrev pub Waits : State → ℕ → Type 0
Waits s j = is_waiting (state_of s) j ≡ true

-- Job j runs.
abbrev pub Runs : State → ℕ → Type 0
Runs s j = is_running (state_of s).stack j ≡ true

-- A job of lower level than job j runs.
abbrev pub LowerRuns : State → ℕ → Type 0
LowerRuns s j = lower_runs (table_of s.table) (state_of s).stack j ≡ true

-- Job j holds units.
abbrev pub HoldsUnits : State → ℕ → Type 0
HoldsUnits s j = 0 < units_held (state_of s).stack j

-- One job runs at the moments `from` and `to`, both belong to one activation of it, and to one unbroken stretch in which it holds units.
pub record OneHolder {s : State} (q : Sequence s) (from to : ℕ) : Type 0 where
  pub job : ℕ
  pub runs_first : Runs (q.states from) job
  pub runs_last : Runs (q.states to) job
  pub one_activation : activation q.answers job from ≡ activation q.answers job to
  pub one_stretch : (m : ℕ) → from ≤ m → m ≤ to → HoldsUnits (q.states m) job

-- The three statements.
pub record Demand3 {s : State} (q : Sequence s) : Type 0 where
  -- (a) A running job that asks within its declared need is never told that too few units are free.
  pub enough : (m : ℕ) → q.answers m ≢ Err AboveFree
  -- (b) While a job waits, any two moments at which jobs of lower level run belong to one activation of one job and to one unbroken
  -- stretch in which it holds units.
  pub blocked_once : (j from to : ℕ) → from ≤ to → ((m : ℕ) → from ≤ m → m ≤ to → Waits (q.states m) j)
      → LowerRuns (q.states from) j → LowerRuns (q.states to) j → OneHolder q from to
  -- (c) No job waits while the stack is empty.
  pub never_idle : (m : ℕ) → (q.states m).depth ≡ 0 → (q.states m).waiting_count ≡ 0
