-- The fields of a state, stored where each begins, are the state's bytes stored.
-- Each begins where the bytes before it end, since the arrays have their lengths.
use Rattle.std.specs.Prelude.{◌≡◌, refl, List, [], ◌∷◌, ◌++◌, ℕ, ◌+◌, ◌*◌, length, drop}
use Rattle.std.proofs.Common.{sym, ap, ap₂, ◌∙◌, arith, length-append}
use Rattle.std.proofs.lemmas.List.{drop_all, append-nil}
use Rattle.std.proofs.lemmas.List.Edits.{sets}
use Rattle.rules.specs.Limits.{max_jobs, max_resources}
use Rattle.station.specs.declared.State.{State}
use Rattle.field.specs.Field.{two}
use Rattle.field.proofs.Stores.{sets_next, sets_over}
use Rattle.state_form.specs.Items.{each}
use Rattle.state_form.specs.Form.{job_size, job_bytes, started_size, started_bytes, number_bytes, state_bytes, state_size, put_out}
use Rattle.state_form.specs.Form.{units_at, resource_count_at, jobs_at, job_count_at, stack_at, depth_at, waiting_at, waiting_count_at}

-- How many bytes the arrays of a state take.
pub record Long (s : State) : Type 0 where
  pub units : length (each two s.table.units) ≡ 2 * max_resources
  pub jobs : length (each job_bytes s.table.jobs) ≡ job_size * max_jobs
  pub stack : length (each started_bytes s.stack) ≡ started_size * max_jobs
  pub waiting : length (each number_bytes s.waiting) ≡ 1 * max_jobs

-- The bytes before each field.
abbrev pub to_units : State → List ℕ
to_units s = two s.table.size

abbrev pub to_resource_count : State → List ℕ
to_resource_count s = to_units s ++ each two s.table.units

abbrev pub to_jobs : State → List ℕ
to_jobs s = to_resource_count s ++ (s.table.resource_count ∷ [])

abbrev pub to_job_count : State → List ℕ
to_job_count s = to_jobs s ++ each job_bytes s.table.jobs

abbrev pub to_stack : State → List ℕ
to_stack s = to_job_count s ++ (s.table.job_count ∷ [])

abbrev pub to_depth : State → List ℕ
to_depth s = to_stack s ++ each started_bytes s.stack

abbrev pub to_waiting : State → List ℕ
to_waiting s = to_depth s ++ (s.depth ∷ [])

abbrev pub to_waiting_count : State → List ℕ
to_waiting_count s = to_waiting s ++ each number_bytes s.waiting

abbrev pub to_end : State → List ℕ
to_end s = to_waiting_count s ++ (s.waiting_count ∷ [])

-- As many as its place says.
module _ (s : State) (l : Long s) where
  pub long_to_resource_count : length (to_resource_count s) ≡ resource_count_at
  long_to_resource_count = length-append (to_units s) (each two s.table.units) ∙ ap (λ (k : ℕ). units_at + k) l.units

  pub long_to_jobs : length (to_jobs s) ≡ jobs_at
  long_to_jobs = length-append (to_resource_count s) (s.table.resource_count ∷ []) ∙ ap (λ (k : ℕ). k + 1) long_to_resource_count

  pub long_to_job_count : length (to_job_count s) ≡ job_count_at
  long_to_job_count = length-append (to_jobs s) (each job_bytes s.table.jobs) ∙ ap₂ (λ (j k : ℕ). j + k) long_to_jobs l.jobs

  pub long_to_stack : length (to_stack s) ≡ stack_at
  long_to_stack = length-append (to_job_count s) (s.table.job_count ∷ []) ∙ ap (λ (k : ℕ). k + 1) long_to_job_count

  pub long_to_depth : length (to_depth s) ≡ depth_at
  long_to_depth = length-append (to_stack s) (each started_bytes s.stack) ∙ ap₂ (λ (j k : ℕ). j + k) long_to_stack l.stack

  pub long_to_waiting : length (to_waiting s) ≡ waiting_at
  long_to_waiting = length-append (to_depth s) (s.depth ∷ []) ∙ ap (λ (k : ℕ). k + 1) long_to_depth

  pub long_to_waiting_count : length (to_waiting_count s) ≡ waiting_count_at
  long_to_waiting_count = length-append (to_waiting s) (each number_bytes s.waiting) ∙ ap₂ (λ (j k : ℕ). j + k) long_to_waiting l.waiting

  pub long_to_end : length (to_end s) ≡ state_size
  long_to_end = length-append (to_waiting_count s) (s.waiting_count ∷ []) ∙ ap (λ (k : ℕ). k + 1) long_to_waiting_count

  pub to_end_is : to_end s ≡ state_bytes s
  unfolding state_bytes
  to_end_is = refl

  pub state_long : length (state_bytes s) ≡ state_size
  state_long = ap length (sym to_end_is) ∙ long_to_end

  next : (out before more : List ℕ) (at : ℕ) → length before ≡ at → sets (sets out 0 before) at more ≡ sets out 0 (before ++ more)
  next out before more at e = sets_next out 0 at before more (omega (arith, e))

  pub state_put : (out : List ℕ)
      → sets (sets (sets (sets (sets (sets (sets (sets (sets out 0 (two s.table.size)) units_at (each two s.table.units)) resource_count_at (s.table.resource_count ∷ []))
      jobs_at (each job_bytes s.table.jobs)) job_count_at (s.table.job_count ∷ [])) stack_at (each started_bytes s.stack)) depth_at (s.depth ∷ []))
      waiting_at (each number_bytes s.waiting)) waiting_count_at (s.waiting_count ∷ [])
      ≡ sets out 0 (state_bytes s)
  state_put out =
      rw (
        next out (to_units s) (each two s.table.units) units_at refl,
        next out (to_resource_count s) (s.table.resource_count ∷ []) resource_count_at long_to_resource_count,
        next out (to_jobs s) (each job_bytes s.table.jobs) jobs_at long_to_jobs,
        next out (to_job_count s) (s.table.job_count ∷ []) job_count_at long_to_job_count,
        next out (to_stack s) (each started_bytes s.stack) stack_at long_to_stack,
        next out (to_depth s) (s.depth ∷ []) depth_at long_to_depth,
        next out (to_waiting s) (each number_bytes s.waiting) waiting_at long_to_waiting,
        next out (to_waiting_count s) (s.waiting_count ∷ []) waiting_count_at long_to_waiting_count,
      )
      (ap (sets out 0) to_end_is)

-- Stored into a buffer of as many bytes, they are all of it.
pub all_stored : (s : State) (out new : List ℕ) → length out ≡ state_size → length (state_bytes s) ≡ state_size → new ≡ sets out 0 (state_bytes s) → new ≡ state_bytes s
all_stored s out new n l e =
    let all : drop (length (state_bytes s)) out ≡ [] = drop_all (length (state_bytes s)) out (omega (arith, l, n)) in
    e
    ∙ sets_over out (state_bytes s) (omega (arith, l, n))
    ∙ ap (λ (r : List ℕ). state_bytes s ++ r) all
    ∙ append-nil (state_bytes s)

pub all_over : (s : State) (out new : List ℕ) → length out ≡ state_size → length (state_bytes s) ≡ state_size → new ≡ sets out 0 (state_bytes s) → new ≡ put_out s out
all_over s out new n l e = rw n (all_stored s out new n l e)
