-- Demand 3, in three statements over the moments of a sequence of events from the fresh state, refused events included.
use Rattle.std.specs.Prelude.{◌≡◌, ◌≢◌, Bool, true, false, List, [], ◌∷◌, ℕ, zero, suc, ◌+◌, ◌≤◌, ◌<◌, ltb, eqb}
use Rattle.std.proofs.Math.Option.{Option, none, some}
use Rattle.rules.specs.Choice.{pick}
use Rattle.rules.specs.Counting.{total, contains}
use Rattle.rules.specs.Table.{Table, level_of}
use Rattle.rules.specs.State.{Started, State, level_at, waiting_jobs, is_running}
use Rattle.rules.specs.Events.{Event, refusal, started_by}
use Rattle.rules.specs.Run.{moment}

-- Job j waits.
abbrev pub is_waiting : State → ℕ → Bool
is_waiting s j = contains j (waiting_jobs s.waiting)

-- Job j waits at every moment from p to q.
abbrev pub WaitsThrough : Table → (ℕ → Event) → ℕ → ℕ → ℕ → Type 0
WaitsThrough t es j p q = (m : ℕ) → p ≤ m → m ≤ q → is_waiting (moment t es m) j ≡ true

-- A job of lower level than job j runs.
abbrev pub lower_runs : Table → List Started → ℕ → Bool
lower_runs t [] j = false
lower_runs t (f ∷ fs) j = ltb (level_at t f.entry) (level_of t j)

abbrev pub is_job : ℕ → Option ℕ → Bool
is_job j none = false
is_job j (some i) = eqb i j

-- An activation of job j lasts from one start of it to the next: its number is how often the first m events started job j.
unfoldable pub activation : Table → (ℕ → Event) → ℕ → ℕ → ℕ
activation t es j zero = 0
activation t es j (suc m) = activation t es j m + pick (is_job j (started_by t (moment t es m) (es m))) 1 0

-- The units that job j holds, of all resources.
unfoldable pub units_held : List Started → ℕ → ℕ
units_held [] j = 0
units_held (f ∷ fs) j = pick (eqb f.entry.who j) (total f.held) (units_held fs j)

-- An unbroken stretch: job j holds units at every moment from p to q.
abbrev pub Stretch : Table → (ℕ → Event) → ℕ → ℕ → ℕ → Type 0
Stretch t es j p q = (m : ℕ) → p ≤ m → m ≤ q → 0 < units_held (moment t es m).stack j

-- One job runs at the moments p and q, both belong to one activation of it, and to one unbroken stretch in which it holds units.
pub record OneHolder (t : Table) (es : ℕ → Event) (p q : ℕ) : Type 0 where
  pub job : ℕ
  pub runs_first : is_running (moment t es p).stack job ≡ true
  pub runs_last : is_running (moment t es q).stack job ≡ true
  pub one_activation : activation t es job p ≡ activation t es job q
  pub one_stretch : Stretch t es job p q

pub record Demand3 (t : Table) (es : ℕ → Event) : Type 0 where
  -- (a) A running job that asks within its declared need is never told that too few units are free.
  pub enough : (m : ℕ) (e : Event) → refusal t (moment t es m) e ≢ 18
  -- (b) While a job waits, any two moments at which jobs of lower level run belong to one activation of one job and to one unbroken
  -- stretch in which it holds units.
  pub blocked_once : (j p q : ℕ) → p ≤ q → WaitsThrough t es j p q → lower_runs t (moment t es p).stack j ≡ true
      → lower_runs t (moment t es q).stack j ≡ true → OneHolder t es p q
  -- (c) No job waits while the stack is empty.
  pub never_idle : (m : ℕ) → (moment t es m).stack ≡ [] → (moment t es m).waiting ≡ []
