-- The state that the arrays hold, and the arrays that hold a state: entries past a count are zero.
use Rattle.std.specs.Prelude.{◌≡◌, [], map, reverse, ℕ, length, take, eqb, Option, Some, None}
use Rattle.std.proofs.Math.Option as maybe
use Rattle.rules.specs.Limits.{max_jobs, max_resources}
use Rattle.rules.specs.Choice.{pick}
use Rattle.rules.specs.State as R
use Rattle.table.specs.declared.JobNo.{JobNo}
use Rattle.table.specs.declared.Table.{Table}
use Rattle.table.specs.Arrays.{padded, table_of_zeros}
use Rattle.table.specs.Judging.{table_judged}
use Rattle.station.specs.declared.Started.{Started}
use Rattle.station.specs.declared.State.{State}

-- ---- from the arrays to the rules' state

-- A job's number as one who has arrived.
abbrev pub entry_of : JobNo → R.Entry
entry_of j = record { who = j.0 }

-- A started job, with what it holds of the first m resources.
abbrev pub started_in : ℕ → Started → R.Started
started_in m f = record { entry = entry_of f.job; held = take m f.held }

-- The state that the arrays hold: in them the stack stands from the lowest job up, in the rules from the running one down.
abbrev pub state_of : State → R.State
state_of s =
    record {
      stack = reverse (map (started_in s.table.resource_count) (take s.depth s.stack));
      waiting = map entry_of (take s.waiting_count s.waiting);
    }

-- ---- and back

-- The number of one who has arrived.
abbrev pub number_in : R.Entry → JobNo
number_in e = record { 0 = e.who }

-- A started job, with what it holds made up with zeros.
abbrev pub started_arrays : R.Started → Started
started_arrays f = record { job = number_in f.entry; held = padded 0 max_resources f.held }

-- A place of zeros.
abbrev pub started_of_zeros : Started
started_of_zeros = started_arrays (record { entry = record { who = 0 }; held = [] })

-- The arrays that hold a state of this table.
abbrev pub arrays_of : Table → R.State → State
arrays_of t s =
    record {
      table = t;
      stack = padded started_of_zeros max_jobs (reverse (map started_arrays s.stack));
      depth = length s.stack;
      waiting = padded (record { 0 = 0 }) max_jobs (map number_in s.waiting);
      waiting_count = length s.waiting;
    }

-- A state of zeros.
abbrev pub state_of_zeros : State
state_of_zeros = arrays_of table_of_zeros R.fresh

-- The fresh state of a table that could be written; of a refused one it is a state of zeros.
abbrev pub fresh_state : Table → State
fresh_state t = pick (eqb (table_judged t) 0) (arrays_of t R.fresh) state_of_zeros

-- ---- what the types say

-- The arrays of a table have a place for each resource and each job.
pub record Roomy (t : Table) : Type 0 where
  pub units : length t.units ≡ max_resources
  pub jobs : length t.jobs ≡ max_jobs

-- ---- a job or none

-- The number of a job, if there is one.
abbrev pub who : Option JobNo → maybe.Option ℕ
who None = maybe.none
who (Some j) = maybe.some j.0
