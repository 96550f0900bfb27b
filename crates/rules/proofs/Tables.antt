-- What a table that could be written keeps: its counts, levels and needs are in range, and its stack holds the worst stack. By the tests of
-- its parts, each of which passes.
use Rattle.std.specs.Prelude.{◌≡◌, true, List, ℕ, ◌≤◌, ◌<◌, length}
use Rattle.std.proofs.Common.{⊎_elim, zero-le, arith, le-leb}
use Rattle.std.proofs.lemmas.Bool.{cases_lt}
use Rattle.std.proofs.lemmas.Bool.Decides.{nat_tests}
use Rattle.std.proofs.lemmas.List.{get_or_past}
use Rattle.rules.specs.Limits.{max_jobs, max_resources, max_units, max_level, max_bytes}
use Rattle.rules.specs.Choice.{first_bad}
use Rattle.rules.specs.Counting.{within, every, none_above}
use Rattle.rules.specs.Table.{Job, Table, no_job, job_of, job_count, resource_count, level_of, need_of, units_of, frame_of, worst}
use Rattle.rules.specs.Table.{counts_good, job_good, values_good, stack_good, table_checks, table_refusal}
use Rattle.rules.proofs.Choices.{stopped}
use Rattle.rules.proofs.Counts.{every_at, none_above_at, none_above-length}

-- ---- its parts

-- Each passes its test ..
pub record Writable (t : Table) : Type 0 where
  pub size : within 1 max_bytes t.size ≡ true
  pub few : resource_count t ≤ max_resources
  pub units : every (within 1 max_units) t.units ≡ true
  pub some : within 1 max_jobs (job_count t) ≡ true
  pub jobs : every (job_good t.units) t.jobs ≡ true
  pub stack : stack_good t ≡ true

-- .. in a table that could be written ..
pub writable : (t : Table) → table_refusal t ≡ 0 → Writable t
unfolding table_refusal
writable t h =
    let s = stopped 0 (table_checks (counts_good (resource_count t) (job_count t)) (values_good t) (stack_good t)) h in
    record { size = grind arith; few = grind (arith, nat_tests); units = grind arith; some = grind arith; jobs = grind arith; stack = grind arith }

-- .. and in no other.
pub unrefused : (t : Table) → Writable t → table_refusal t ≡ 0
unfolding table_refusal first_bad
unrefused t w = simp (le-leb _ _ w.few, w.size, w.units, w.some, w.jobs, w.stack)

-- ---- what they say

-- The numbers are in range.
pub record Good (t : Table) : Type 0 where
  pub few_jobs : job_count t ≤ max_jobs
  pub few_resources : resource_count t ≤ max_resources
  pub positive : (j : ℕ) → j < job_count t → 0 < level_of t j
  pub low : (j : ℕ) → j < job_count t → level_of t j ≤ max_level
  pub framed : (j : ℕ) → j < job_count t → 0 < frame_of t j
  pub full : (j : ℕ) → j < job_count t → length (job_of t j).needs ≡ resource_count t
  pub fits : (j r : ℕ) → need_of t j r ≤ units_of t r
  pub few_units : (r : ℕ) → r < resource_count t → units_of t r ≤ max_units
  pub deep : worst t ≤ t.size

-- Of a listed job.
record JobFits (units : List ℕ) (j : Job) : Type 0 where
  positive : 0 < j.level
  low : j.level ≤ max_level
  framed : 0 < j.frame
  needs : none_above units j.needs ≡ true

job_fits : (units : List ℕ) (j : Job) → job_good units j ≡ true → JobFits units j
job_fits units j h = grind (arith, nat_tests)

module _ (t : Table) (jobs : every (job_good t.units) t.jobs ≡ true) where
  fit_at : (j : ℕ) → j < job_count t → JobFits t.units (job_of t j)
  fit_at j l = job_fits t.units (job_of t j) (every_at (job_good t.units) t.jobs jobs j no_job l)

  -- it has a need of each resource
  pub need_count : (j : ℕ) → j < job_count t → length (job_of t j).needs ≡ resource_count t
  need_count j l = none_above-length t.units (job_of t j).needs (fit_at j l).needs

  need_fits : (j r : ℕ) → need_of t j r ≤ units_of t r
  need_fits j r =
      ⊎_elim
      (λ l. none_above_at t.units (job_of t j).needs (fit_at j l).needs r)
      (λ l. rw (get_or_past t.jobs j no_job l) zero-le)
      (cases_lt j (job_count t))

pub good_table : (t : Table) → table_refusal t ≡ 0 → Good t
good_table t h =
    let w = writable t h in
    let at : (j : ℕ) → j < job_count t → JobFits t.units (job_of t j) = fit_at t w.jobs in
    record {
      few_jobs = grind (arith, nat_tests, w.some);
      few_resources = w.few;
      positive = λ j l. (at j l).positive;
      low = λ j l. (at j l).low;
      framed = λ j l. (at j l).framed;
      full = need_count t w.jobs;
      fits = need_fits t w.jobs;
      few_units = λ r l. grind (arith, nat_tests, every_at (within 1 max_units) t.units w.units r 0 l);
      deep = grind (arith, nat_tests, w.stack);
    }
