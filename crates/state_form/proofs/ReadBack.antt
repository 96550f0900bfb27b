-- A state that was stored is read back as it was: each field stands at its place, and is read by its own bytes.
use Rattle.std.specs.Prelude.{◌≡◌, refl, All, List, [], ◌∷◌, ◌++◌, ℕ, ◌+◌, ◌*◌, length, get_or, eqb, ⊤, Ok, Err}
use Rattle.std.proofs.Common.{sym, ap, ap₂, ◌∙◌, arith}
use Rattle.rules.specs.Limits.{max_jobs, max_resources}
use Rattle.rules.specs.Choice.{pick}
use Rattle.table.specs.declared.Table.{Table}
use Rattle.table.specs.declared.Job.{Job}
use Rattle.table.specs.declared.JobNo.{JobNo}
use Rattle.station.specs.declared.Started.{Started}
use Rattle.station.specs.declared.State.{State}
use Rattle.field.specs.Field.{two, pair_at}
use Rattle.state_form.specs.Items.{each, items}
use Rattle.state_form.specs.Form.{job_size, job_bytes, job_read, JobFull, started_size, started_bytes, started_read, StartedFull, number_bytes, number_read}
use Rattle.state_form.specs.Form.{units_at, resource_count_at, jobs_at, job_count_at, stack_at, depth_at, waiting_at, waiting_count_at}
use Rattle.state_form.specs.Form.{state_bytes, state_read, state_size, get_answer, StateFull}
use Rattle.state_form.proofs.Standing.{Stands, whole_stands, first_stands, second_stands, byte_stands, pair_stands, behind_stands, all_stand, each-length}
use Rattle.state_form.proofs.Stored.{Long, to_units, to_resource_count, to_jobs, to_job_count, to_stack, to_depth, to_waiting, to_waiting_count, to_end, to_end_is, state_long}
use Rattle.state_form.proofs.Stored.{long_to_resource_count, long_to_jobs, long_to_job_count, long_to_stack, long_to_depth, long_to_waiting, long_to_waiting_count}

-- Nothing is asked of these.
any : {A : Type 0} (xs : List A) → All (λ (x : A). ⊤) xs
any xs k d h = tt

-- Numbers of two bytes, as many as there are resources.
pairs-length : (ns : List ℕ) → length ns ≡ max_resources → length (each two ns) ≡ 2 * max_resources
pairs-length ns e = each-length two 2 (λ n. ⊤) (λ n t. refl) ns (any ns) ∙ ap (λ (k : ℕ). 2 * k) e

pairs_stand : (ns s : List ℕ) (at : ℕ) → length ns ≡ max_resources → Stands (each two ns) s at → items pair_at 2 max_resources s at ≡ ns
pairs_stand ns s at e h = all_stand two pair_at 2 (λ n. ⊤) s (λ n t. refl) (λ n a t. pair_stands n s a) ns max_resources at e (any ns) h

-- ---- jobs

job-length : (j : Job) → JobFull j → length (job_bytes j) ≡ job_size
job-length j f = omega (arith, pairs-length j.needs f)

job_stands : (s : List ℕ) (j : Job) (at : ℕ) → JobFull j → Stands (job_bytes j) s at → job_read s at ≡ j
job_stands s j at f h =
    let frame = second_stands (j.level.0 ∷ []) (two j.frame ++ each two j.needs) s at h (at + 1) refl in
    ap₂ (λ (l : ℕ) (n : List ℕ). record { level = record { 0 = l }; frame = pair_at s (at + 1); needs = n })
    (byte_stands j.level.0 (two j.frame ++ each two j.needs) s at h)
    (pairs_stand j.needs s (at + 3) f (second_stands (j.level.0 ∷ two j.frame) (each two j.needs) s at h (at + 3) refl))
    ∙ ap (λ (n : ℕ). record { level = j.level; frame = n; needs = j.needs })
    (pair_stands j.frame s (at + 1) (first_stands (two j.frame) (each two j.needs) s (at + 1) frame))

-- ---- places of the stack

started-length : (f : Started) → StartedFull f → length (started_bytes f) ≡ started_size
started-length f l = omega (arith, pairs-length f.held l)

started_stands : (s : List ℕ) (f : Started) (at : ℕ) → StartedFull f → Stands (started_bytes f) s at → started_read s at ≡ f
started_stands s f at l h =
    ap₂ (λ (j : ℕ) (n : List ℕ). record { job = record { 0 = j }; held = n })
    (byte_stands f.job.0 (each two f.held) s at h)
    (pairs_stand f.held s (at + 1) l (second_stands (f.job.0 ∷ []) (each two f.held) s at h (at + 1) refl))

-- ---- jobs that wait

number_stands : (s : List ℕ) (j : JobNo) (at : ℕ) → Stands (number_bytes j) s at → number_read s at ≡ j
number_stands s j at h = ap (λ (n : ℕ). record { 0 = n }) (byte_stands j.0 [] s at h)

-- ---- a state

module _ (s : State) (f : StateFull s) where
  long : Long s
  long =
      record {
        units = pairs-length s.table.units f.units;
        jobs = each-length job_bytes job_size JobFull job-length s.table.jobs f.needs ∙ ap (λ (k : ℕ). job_size * k) f.jobs;
        stack = each-length started_bytes started_size StartedFull started-length s.stack f.held ∙ ap (λ (k : ℕ). started_size * k) f.stack;
        waiting = each-length number_bytes 1 (λ j. ⊤) (λ j t. refl) s.waiting (any s.waiting) ∙ ap (λ (k : ℕ). 1 * k) f.waiting;
      }

  -- What is read where its bytes stand is the state ..
  module _ (b : List ℕ) (h : Stands (to_end s) b 0) where
    stands_to_waiting_count : Stands (to_waiting_count s) b 0
    stands_to_waiting_count = first_stands (to_waiting_count s) (s.waiting_count ∷ []) b 0 h

    stands_to_waiting : Stands (to_waiting s) b 0
    stands_to_waiting = first_stands (to_waiting s) (each number_bytes s.waiting) b 0 stands_to_waiting_count

    stands_to_depth : Stands (to_depth s) b 0
    stands_to_depth = first_stands (to_depth s) (s.depth ∷ []) b 0 stands_to_waiting

    stands_to_stack : Stands (to_stack s) b 0
    stands_to_stack = first_stands (to_stack s) (each started_bytes s.stack) b 0 stands_to_depth

    stands_to_job_count : Stands (to_job_count s) b 0
    stands_to_job_count = first_stands (to_job_count s) (s.table.job_count ∷ []) b 0 stands_to_stack

    stands_to_jobs : Stands (to_jobs s) b 0
    stands_to_jobs = first_stands (to_jobs s) (each job_bytes s.table.jobs) b 0 stands_to_job_count

    stands_to_resource_count : Stands (to_resource_count s) b 0
    stands_to_resource_count = first_stands (to_resource_count s) (s.table.resource_count ∷ []) b 0 stands_to_jobs

    stands_to_units : Stands (to_units s) b 0
    stands_to_units = first_stands (to_units s) (each two s.table.units) b 0 stands_to_resource_count

    units : items pair_at 2 max_resources b units_at ≡ s.table.units
    units = pairs_stand s.table.units b units_at f.units (behind_stands (to_units s) (each two s.table.units) b units_at refl stands_to_resource_count)

    resource_count : get_or b resource_count_at 0 ≡ s.table.resource_count
    resource_count =
        byte_stands s.table.resource_count [] b resource_count_at
        (behind_stands (to_resource_count s) (s.table.resource_count ∷ []) b resource_count_at (long_to_resource_count s long) stands_to_jobs)

    jobs : items job_read job_size max_jobs b jobs_at ≡ s.table.jobs
    jobs =
        all_stand job_bytes job_read job_size JobFull b job-length (job_stands b) s.table.jobs max_jobs jobs_at f.jobs f.needs
        (behind_stands (to_jobs s) (each job_bytes s.table.jobs) b jobs_at (long_to_jobs s long) stands_to_job_count)

    job_count : get_or b job_count_at 0 ≡ s.table.job_count
    job_count =
        byte_stands s.table.job_count [] b job_count_at
        (behind_stands (to_job_count s) (s.table.job_count ∷ []) b job_count_at (long_to_job_count s long) stands_to_stack)

    stack : items started_read started_size max_jobs b stack_at ≡ s.stack
    stack =
        all_stand started_bytes started_read started_size StartedFull b started-length (started_stands b) s.stack max_jobs stack_at f.stack f.held
        (behind_stands (to_stack s) (each started_bytes s.stack) b stack_at (long_to_stack s long) stands_to_depth)

    depth : get_or b depth_at 0 ≡ s.depth
    depth = byte_stands s.depth [] b depth_at (behind_stands (to_depth s) (s.depth ∷ []) b depth_at (long_to_depth s long) stands_to_waiting)

    waiting : items number_read 1 max_jobs b waiting_at ≡ s.waiting
    waiting =
        all_stand number_bytes number_read 1 (λ n. ⊤) b (λ n t. refl) (λ n a t. number_stands b n a) s.waiting max_jobs waiting_at f.waiting (any s.waiting)
        (behind_stands (to_waiting s) (each number_bytes s.waiting) b waiting_at (long_to_waiting s long) stands_to_waiting_count)

    waiting_count : get_or b waiting_count_at 0 ≡ s.waiting_count
    waiting_count =
        byte_stands s.waiting_count [] b waiting_count_at
        (behind_stands (to_waiting_count s) (s.waiting_count ∷ []) b waiting_count_at (long_to_waiting_count s long) h)

    table : (state_read b).table ≡ s.table
    unfolding state_read
    table = rw (pair_stands s.table.size b 0 stands_to_units, units, resource_count, jobs, job_count) refl

    pub read_standing : state_read b ≡ s
    unfolding state_read
    read_standing =
        ap (λ (t : Table). record { table = t; stack = (state_read b).stack; depth = (state_read b).depth; waiting = (state_read b).waiting; waiting_count = (state_read b).waiting_count }) table
        ∙ rw (stack, depth, waiting, waiting_count) refl

  -- .. so what is stored of it is read as it was ..
  pub read_written : state_read (state_bytes s) ≡ s
  read_written =
      let e = to_end_is s long in
      read_standing (state_bytes s) (λ k l. ap (λ (v : List ℕ). get_or v (0 + k) 0) (sym e) ∙ whole_stands (to_end s) k l)

  -- .. and is never refused.
  pub get_written : get_answer (state_bytes s) ≡ Ok s
  get_written =
      ap (λ (n : ℕ). pick (eqb n state_size) (Ok (state_read (state_bytes s))) (Err 10)) (state_long s long)
      ∙ ap (λ (x : State). Ok x) read_written
