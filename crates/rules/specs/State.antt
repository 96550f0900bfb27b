-- docs/RULES.md, "Rules of the policy": the stack of started jobs with what each holds, the waiting jobs, the free units.
use Rattle.std.specs.Prelude.{Bool, false, List, [], ◌∷◌, ◌++◌, ℕ, ◌+◌, ◌-◌, get_or, replicate, eqb}
use Rattle.std.proofs.Math.Option.{Option, none, some}
use Rattle.rules.specs.Table.{Table, level_of, resource_count, units_of}

-- A job that has arrived and not finished. Proofs never take one apart, so that an arrival may come to carry more.
pub record Entry : Type 0 where
  pub who : ℕ

-- A started, unfinished job, and the units that it holds of each resource: so only started jobs hold units.
pub record Started : Type 0 where
  pub entry : Entry
  pub held : List ℕ

-- The stack is the list of started, unfinished jobs, its top first; the waiting jobs stand with the head first.
pub record State : Type 0 where
  pub stack : List Started
  pub waiting : List Entry

-- A fresh state: nothing started, waiting or held.
abbrev pub fresh : State
fresh = record { stack = []; waiting = [] }

-- The state s with another stack and other waiting jobs: every change of a state is made by this.
abbrev pub put : State → List Started → List Entry → State
put s fs ks = record { stack = fs; waiting = ks }

abbrev pub level_at : Table → Entry → ℕ
level_at t e = level_of t e.who

-- ---- who is started, waits, runs

abbrev pub started_jobs : List Started → List ℕ
started_jobs [] = []
started_jobs (f ∷ fs) = f.entry.who ∷ started_jobs fs

abbrev pub waiting_jobs : List Entry → List ℕ
waiting_jobs [] = []
waiting_jobs (k ∷ ks) = k.who ∷ waiting_jobs ks

-- The started and the waiting jobs.
abbrev pub active_jobs : State → List ℕ
active_jobs s = started_jobs s.stack ++ waiting_jobs s.waiting

-- The top of the stack is the running job.
abbrev pub running : List Started → Option ℕ
running [] = none
running (f ∷ fs) = some f.entry.who

abbrev pub is_running : List Started → ℕ → Bool
is_running [] j = false
is_running (f ∷ fs) j = eqb f.entry.who j

-- The running job's level; 0 if nothing runs.
abbrev pub running_level : Table → List Started → ℕ
running_level t [] = 0
running_level t (f ∷ fs) = level_at t f.entry

-- ---- what is held and what is free

-- What the running job holds of each resource.
abbrev pub running_held : List Started → List ℕ
running_held [] = []
running_held (f ∷ fs) = f.held

-- Nothing of any resource.
abbrev pub nothing_held : Table → List ℕ
nothing_held t = replicate (resource_count t) 0

-- The units of resource r that the started jobs hold.
unfoldable pub held_in : List Started → ℕ → ℕ
held_in [] r = 0
held_in (f ∷ fs) r = get_or f.held r 0 + held_in fs r

-- Free units of a resource: its units less all units held.
abbrev pub free_in : Table → List Started → ℕ → ℕ
free_in t fs r = units_of t r - held_in fs r
