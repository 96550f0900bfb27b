-- What judging tells of a table in arrays that could be written: its counts and its values are in range, entries past a count are zero, and
-- the rules' table that it holds could be written. By the judgement's three tests, each of which passes.
use Rattle.std.specs.Prelude.{◌≡◌, refl, true, ◌≤◌, ◌<◌, length, take}
use Rattle.std.proofs.Common.{◌∙◌, arith, length-take-le}
use Rattle.std.proofs.lemmas.Bool.Decides.{nat_tests}
use Rattle.std.proofs.lemmas.List.{length-map, length-take}
use Rattle.rules.specs.Choice.{first_bad}
use Rattle.rules.specs.Limits.{max_jobs, max_resources}
use Rattle.rules.specs.Table as R
use Rattle.rules.specs.Table.{counts_good, values_good, stack_good, table_checks, table_refusal}
use Rattle.rules.proofs.Choices.{stopped}
use Rattle.table.specs.declared.Table.{Table}
use Rattle.table.specs.Arrays.{job_in, table_of}
use Rattle.table.specs.Judging.{blank, counts_fit, values_fit, table_judged}

-- Each test has passed.
pub record Fit (t : Table) : Type 0 where
  pub counts : counts_fit t ≡ true
  pub few_jobs : t.job_count ≤ max_jobs
  pub few_resources : t.resource_count ≤ max_resources
  pub some_job : 0 < t.job_count
  pub values : values_good (table_of t) ≡ true
  pub blank : blank t ≡ true
  pub stack : stack_good (table_of t) ≡ true

-- A table that could be written has passed them.
pub fit : (t : Table) → table_judged t ≡ 0 → Fit t
unfolding table_judged
fit t e =
    let s = stopped 0 (table_checks (counts_fit t) (values_fit t) (stack_good (table_of t))) e in
    record {
      counts = grind arith;
      few_jobs = grind (arith, nat_tests);
      few_resources = grind (arith, nat_tests);
      some_job = grind (arith, nat_tests);
      values = grind arith;
      blank = grind arith;
      stack = grind arith;
    }

-- As many resources and jobs are listed as are counted ..
pub resources_listed : (t : Table) → Fit t → length t.units ≡ max_resources → R.resource_count (table_of t) ≡ t.resource_count
resources_listed t f u = length-take-le t.resource_count t.units (omega (arith, f.few_resources))

pub jobs_listed : (t : Table) → Fit t → length t.jobs ≡ max_jobs → R.job_count (table_of t) ≡ t.job_count
jobs_listed t f j = length-map (take t.job_count t.jobs) (job_in t.resource_count) ∙ length-take-le t.job_count t.jobs (omega (arith, f.few_jobs))

-- .. and whatever the arrays' lengths, no more than the limits.
pub few_resources_listed : (t : Table) → Fit t → R.resource_count (table_of t) ≤ max_resources
few_resources_listed t f = omega (arith, f.few_resources, length-take t.resource_count t.units)

pub few_jobs_listed : (t : Table) → Fit t → R.job_count (table_of t) ≤ max_jobs
few_jobs_listed t f = omega (arith, f.few_jobs, length-map (take t.job_count t.jobs) (job_in t.resource_count), length-take t.job_count t.jobs)

-- The rules' table could be written, if it lists a job ..
pub listed_written : (t : Table) → Fit t → 0 < R.job_count (table_of t) → table_refusal (table_of t) ≡ 0
unfolding table_refusal first_bad
listed_written t f l =
    let few_resources = few_resources_listed t f in
    let few_jobs = few_jobs_listed t f in
    let c : counts_good (R.resource_count (table_of t)) (R.job_count (table_of t)) ≡ true = grind (arith, nat_tests) in
    rw (c, f.values, f.stack) refl

-- .. and so it does where the array of the jobs has its length.
pub fit_written : (t : Table) → table_judged t ≡ 0 → length t.jobs ≡ max_jobs → table_refusal (table_of t) ≡ 0
fit_written t e j = let f = fit t e in listed_written t f (omega (arith, f.some_job, jobs_listed t f j))
