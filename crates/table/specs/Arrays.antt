-- The table that the arrays hold, and the arrays that hold a table: entries past a count are zero.
use Rattle.std.specs.Prelude.{◌≡◌, List, [], ◌++◌, map, ℕ, ◌-◌, ◌≤◌, ◌<◌, length, get_or, take, replicate}
use Rattle.rules.specs.Limits.{max_jobs, max_resources, max_level, max_bytes}
use Rattle.rules.specs.Table as R
use Rattle.table.specs.declared.Job.{Job}
use Rattle.table.specs.declared.Table.{Table}

-- ---- from the arrays to the rules' table

-- A job with its needs of the first m resources.
abbrev pub job_in : ℕ → Job → R.Job
job_in m j = record { level = j.level.0; frame = j.frame; needs = take m j.needs }

-- The table that the arrays hold: as many resources and jobs as are counted.
abbrev pub table_of : Table → R.Table
table_of t =
    record {
      size = t.size;
      units = take t.resource_count t.units;
      jobs = map (job_in t.resource_count) (take t.job_count t.jobs);
    }

-- ---- and back

-- A list, made up to n entries with z.
abbrev pub padded : {A : Type 0} → A → ℕ → List A → List A
padded z n xs = xs ++ replicate (n - length xs) z

-- A job's level and frame, and its needs made up with zeros.
abbrev pub job_arrays : R.Job → Job
job_arrays j = record { level = record { 0 = j.level }; frame = j.frame; needs = padded 0 max_resources j.needs }

-- A job of zeros.
abbrev pub job_of_zeros : Job
job_of_zeros = job_arrays R.no_job

-- The arrays that hold a table.
abbrev pub arrays_of : R.Table → Table
arrays_of t =
    record {
      size = t.size;
      units = padded 0 max_resources t.units;
      resource_count = length t.units;
      jobs = padded job_of_zeros max_jobs (map job_arrays t.jobs);
      job_count = length t.jobs;
    }

-- A table of zeros.
abbrev pub table_of_zeros : Table
table_of_zeros = arrays_of (record { size = 0; units = []; jobs = [] })

-- ---- what the types say

-- What an index past an array's end reads as.
abbrev pub absent_job : Job
absent_job = record { level = record { 0 = 0 }; frame = 0; needs = [] }

-- The job at place j of the arrays.
abbrev pub job_at : Table → ℕ → Job
job_at t j = get_or t.jobs j absent_job

-- The arrays have their lengths, and the numbers are of one and of two bytes.
pub record Shaped (t : Table) : Type 0 where
  pub size_fits : t.size ≤ max_bytes
  pub units_length : length t.units ≡ max_resources
  pub jobs_length : length t.jobs ≡ max_jobs
  pub needs_length : (j : ℕ) → j < max_jobs → length (job_at t j).needs ≡ max_resources
  pub level_fits : (j : ℕ) → j < max_jobs → (job_at t j).level.0 ≤ max_level
  pub frame_fits : (j : ℕ) → j < max_jobs → (job_at t j).frame ≤ max_bytes
