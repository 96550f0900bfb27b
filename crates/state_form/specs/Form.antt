-- A state as bytes: its fields in order, numbers with the high byte first.
use Rattle.std.specs.Prelude.{◌≡◌, All, List, [], ◌∷◌, ◌++◌, ℕ, ◌+◌, ◌*◌, length, eqb, slice_index, Result, Ok, Err}
use Rattle.rules.specs.Limits.{max_jobs, max_resources}
use Rattle.rules.specs.Choice.{pick}
use Rattle.table.specs.declared.Job.{Job}
use Rattle.table.specs.declared.JobNo.{JobNo}
use Rattle.station.specs.declared.Started.{Started}
use Rattle.station.specs.declared.State.{State}
use Rattle.field.specs.Field.{two, pair_at}
use Rattle.state_form.specs.Items.{each, items}

-- ---- the parts

-- A job: level 1, frame 2, needs 2 each.
abbrev pub job_size : ℕ
job_size = 3 + 2 * max_resources

abbrev pub job_bytes : Job → List ℕ
job_bytes j = j.level.0 ∷ two j.frame ++ each two j.needs

abbrev pub job_read : List ℕ → ℕ → Job
job_read s at =
    record {
      level = record { 0 = slice_index s at };
      frame = pair_at s (at + 1);
      needs = items pair_at 2 max_resources s (at + 3);
    }

-- A place of the stack: its job 1, what it holds 2 each.
abbrev pub started_size : ℕ
started_size = 1 + 2 * max_resources

abbrev pub started_bytes : Started → List ℕ
started_bytes f = f.job.0 ∷ each two f.held

abbrev pub started_read : List ℕ → ℕ → Started
started_read s at = record { job = record { 0 = slice_index s at }; held = items pair_at 2 max_resources s (at + 1) }

-- A job that waits: its number, 1.
abbrev pub number_bytes : JobNo → List ℕ
number_bytes j = j.0 ∷ []

abbrev pub number_read : List ℕ → ℕ → JobNo
number_read s at = record { 0 = slice_index s at }

-- ---- where each field stands, behind the stack size at 0

abbrev pub units_at : ℕ
units_at = 2

abbrev pub resource_count_at : ℕ
resource_count_at = units_at + 2 * max_resources

abbrev pub jobs_at : ℕ
jobs_at = resource_count_at + 1

abbrev pub job_count_at : ℕ
job_count_at = jobs_at + job_size * max_jobs

abbrev pub stack_at : ℕ
stack_at = job_count_at + 1

abbrev pub depth_at : ℕ
depth_at = stack_at + started_size * max_jobs

abbrev pub waiting_at : ℕ
waiting_at = depth_at + 1

abbrev pub waiting_count_at : ℕ
waiting_count_at = waiting_at + max_jobs

-- The bytes of a state are as many as this.
abbrev pub state_size : ℕ
state_size = waiting_count_at + 1

-- ---- a state

-- Its bytes.
unfoldable pub state_bytes : State → List ℕ
state_bytes s =
    two s.table.size
    ++ each two s.table.units
    ++ (s.table.resource_count ∷ [])
    ++ each job_bytes s.table.jobs
    ++ (s.table.job_count ∷ [])
    ++ each started_bytes s.stack
    ++ (s.depth ∷ [])
    ++ each number_bytes s.waiting
    ++ (s.waiting_count ∷ [])

-- The state in some bytes.
unfoldable pub state_read : List ℕ → State
state_read b =
    record {
      table =
          record {
            size = pair_at b 0;
            units = items pair_at 2 max_resources b units_at;
            resource_count = slice_index b resource_count_at;
            jobs = items job_read job_size max_jobs b jobs_at;
            job_count = slice_index b job_count_at;
          };
      stack = items started_read started_size max_jobs b stack_at;
      depth = slice_index b depth_at;
      waiting = items number_read 1 max_jobs b waiting_at;
      waiting_count = slice_index b waiting_count_at;
    }

-- What the types say of a state: each array has a place for each job, or for each resource.
abbrev pub JobFull : Job → Type 0
JobFull j = length j.needs ≡ max_resources

abbrev pub StartedFull : Started → Type 0
StartedFull f = length f.held ≡ max_resources

pub record StateFull (s : State) : Type 0 where
  pub units : length s.table.units ≡ max_resources
  pub jobs : length s.table.jobs ≡ max_jobs
  pub needs : All JobFull s.table.jobs
  pub stack : length s.stack ≡ max_jobs
  pub held : All StartedFull s.stack
  pub waiting : length s.waiting ≡ max_jobs

-- ---- storing and reading

-- Storing a state into a buffer of n bytes: 6 if these are not as many as its bytes.
abbrev pub put_answer : ℕ → ℕ
put_answer n = pick (eqb n state_size) 0 6

-- The buffer afterwards. A refused store changes no byte of it.
abbrev pub put_out : State → List ℕ → List ℕ
put_out s out = pick (eqb (length out) state_size) (state_bytes s) out

-- Reading a state: 10 for bytes of another length.
abbrev pub get_answer : List ℕ → Result State ℕ
get_answer b = pick (eqb (length b) state_size) (Ok (state_read b)) (Err 10)
