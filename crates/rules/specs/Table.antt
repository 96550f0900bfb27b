-- docs/RULES.md, "Numbers" and the worst stack: the table of jobs and resources, and when it could be written.
use Rattle.std.specs.Prelude.{Bool, not, ◌&&◌, List, [], ◌∷◌, ℕ, suc, length, get_or, leb, eqb}
use Rattle.rules.specs.Limits.{max_jobs, max_resources, max_units, max_level, max_bytes}
use Rattle.rules.specs.Choice.{pick, Check, refuse, first_bad}
use Rattle.rules.specs.Counting.{max_below, sum_below, within, every, none_above}

-- A job: its level, its frame (stack bytes), and its need of each resource.
pub record Job : Type 0 where
  pub level : ℕ
  pub frame : ℕ
  pub needs : List ℕ

-- A table: the stack size, the units of each resource, and the jobs. Both are numbered from 0 in table order.
pub record Table : Type 0 where
  pub size : ℕ
  pub units : List ℕ
  pub jobs : List Job

abbrev pub job_count : Table → ℕ
job_count t = length t.jobs

abbrev pub resource_count : Table → ℕ
resource_count t = length t.units

-- What a number that is not a job's reads as.
abbrev pub no_job : Job
no_job = record { level = 0; frame = 0; needs = [] }

abbrev pub job_of : Table → ℕ → Job
job_of t j = get_or t.jobs j no_job

-- The level of job j.
abbrev pub level_of : Table → ℕ → ℕ
level_of t j = (job_of t j).level

-- The need of job j of resource r.
abbrev pub need_of : Table → ℕ → ℕ → ℕ
need_of t j r = get_or (job_of t j).needs r 0

-- The units of resource r.
abbrev pub units_of : Table → ℕ → ℕ
units_of t r = get_or t.units r 0

-- The length of job j's frame: the part of the stack memory that is handed out and cleared.
abbrev pub frame_of : Table → ℕ → ℕ
frame_of t j = (job_of t j).frame

-- The bytes that job j's frame takes on the stack, in placing and in the worst stack.
abbrev pub room_of : Table → ℕ → ℕ
room_of t j = frame_of t j

-- The largest frame at level l; 0 if the level is not in use.
abbrev pub largest_at : Table → ℕ → ℕ
largest_at t l = max_below (job_count t) (λ j. pick (eqb (level_of t j) l) (room_of t j) 0)

-- Worst stack of a table: for each level in use the largest frame at that level, added up.
unfoldable pub worst : Table → ℕ
worst t = sum_below (suc max_level) (largest_at t)

-- ---- when a table could be written

-- Jobs 1 to 32, resources 0 to 8: a count out of range is refused with 2.
abbrev pub counts_good : ℕ → ℕ → Bool
counts_good resources jobs = leb resources max_resources && within 1 max_jobs jobs

-- Level 1 to 255; frame 1 to 65,535; a need is 0 up to the resource's units.
abbrev pub job_good : List ℕ → Job → Bool
job_good units j = within 1 max_level j.level && within 1 max_bytes j.frame && none_above units j.needs

-- Stack size 1 to 65,535; units 1 to 1,000; every job good: a value outside its range is refused with 4.
abbrev pub values_good : Table → Bool
values_good t = within 1 max_bytes t.size && every (within 1 max_units) t.units && every (job_good t.units) t.jobs

-- A worst stack greater than the stack size is refused with 5.
abbrev pub stack_good : Table → Bool
stack_good t = leb (worst t) t.size

-- Counts out of range 2, then 4, 5.
abbrev pub table_checks : Bool → Bool → Bool → List Check
table_checks counts values stack = refuse (not counts) 2 ∷ refuse (not values) 4 ∷ refuse (not stack) 5 ∷ []

-- The refusal of a table to be written: 2, 4 or 5, in that order; 0 if it could be written.
unfoldable pub table_refusal : Table → ℕ
table_refusal t = first_bad (table_checks (counts_good (resource_count t) (job_count t)) (values_good t) (stack_good t))
