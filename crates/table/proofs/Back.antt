-- The arrays and the rules' table are two writings of one table: what stands past the counts is zero, and so is what padding puts there;
-- and what `take` reads of a padded list is the list.
use Rattle.std.specs.Prelude.{◌≡◌, refl, true, ◌&&◌, List, [], ◌∷◌, map, ℕ, suc, ◌≤◌, ◌<◌, length, get_or, take, drop}
use Rattle.std.proofs.Common.{ap, ap₂, sym, ◌∙◌, arith, eqb-true, take_at}
use Rattle.std.proofs.lemmas.Bool.{and_parts}
use Rattle.std.proofs.lemmas.List.{length-map}
use mathlib.Core.List.{map-map}
use Rattle.rules.specs.Limits.{max_jobs, max_resources}
use Rattle.rules.specs.Counting.{every}
use Rattle.rules.specs.Table as R
use Rattle.rules.proofs.Counts.{every_take_at, every_drop_at}
use Rattle.table.specs.declared.Job.{Job}
use Rattle.table.specs.declared.Table.{Table}
use Rattle.table.specs.Arrays.{job_in, table_of, padded, job_arrays, job_of_zeros, arrays_of, absent_job, job_at, Shaped}
use Rattle.table.specs.Judging.{is_zero, needs_blank, job_blank}
use Rattle.table.proofs.Fit.{Fit, resources_listed, jobs_listed}
use Rattle.table.proofs.Padded.{padded_back, numbers_back}

-- ---- a job

-- Jobs that agree in each field are the same.
job_same : (a b : Job) → a.level.0 ≡ b.level.0 → a.frame ≡ b.frame → a.needs ≡ b.needs → a ≡ b
job_same a b p q r =
    ap (λ l. record { level = record { 0 = l }; frame = a.frame; needs = a.needs }) p
    ∙ ap (λ f. record { level = b.level; frame = f; needs = a.needs }) q
    ∙ ap (λ ns. record { level = b.level; frame = b.frame; needs = ns }) r

-- A listed job's needs, made up again with zeros.
job_back : (m : ℕ) (j : Job) → length j.needs ≡ max_resources → needs_blank m j ≡ true → job_arrays (job_in m j) ≡ j
job_back m j e h = ap (λ ns. record { level = j.level; frame = j.frame; needs = ns }) (numbers_back m max_resources j.needs e h)

-- A place that is all zero is a job of zeros.
zeros_back : (j : Job) → length j.needs ≡ max_resources → job_blank j ≡ true → j ≡ job_of_zeros
zeros_back j e h =
    let p = and_parts (is_zero j.level.0 && is_zero j.frame) (every is_zero j.needs) h in
    let q = and_parts (is_zero j.level.0) (is_zero j.frame) p.0 in
    job_same j job_of_zeros (eqb-true j.level.0 0 q.0) (eqb-true j.frame 0 q.1) (sym (numbers_back 0 max_resources j.needs e p.1))

-- ---- a table

-- Tables that agree in each field are the same.
table_same : (a b : Table) → a.size ≡ b.size → a.units ≡ b.units → a.resource_count ≡ b.resource_count → a.jobs ≡ b.jobs → a.job_count ≡ b.job_count → a ≡ b
table_same a b p q r s v =
    ap (λ n. record { size = n; units = a.units; resource_count = a.resource_count; jobs = a.jobs; job_count = a.job_count }) p
    ∙ ap₂ (λ us n. record { size = b.size; units = us; resource_count = n; jobs = a.jobs; job_count = a.job_count }) q r
    ∙ ap₂ (λ js n. record { size = b.size; units = b.units; resource_count = b.resource_count; jobs = js; job_count = n }) s v

-- The listed jobs, and behind them jobs of zeros.
jobs_back : (t : Table) → Shaped t → t.job_count ≤ length t.jobs → every (needs_blank t.resource_count) (take t.job_count t.jobs) ≡ true
    → every job_blank (drop t.job_count t.jobs) ≡ true
    → padded job_of_zeros max_jobs (map job_arrays (map (job_in t.resource_count) (take t.job_count t.jobs))) ≡ t.jobs
jobs_back t s few listed past =
    let m = t.resource_count in
    let k = t.job_count in
    ap₂ (padded job_of_zeros) (sym s.jobs_length) (map-map job_arrays (job_in m) (take k t.jobs))
    ∙ padded_back job_of_zeros absent_job (λ j. job_arrays (job_in m j)) k t.jobs
    (λ i l b. job_back m (job_at t i) (s.needs_length i (omega arith)) (every_take_at (needs_blank m) k t.jobs absent_job listed few i b))
    (λ i l b. zeros_back (job_at t i) (s.needs_length i (omega arith)) (every_drop_at job_blank k t.jobs absent_job past i l b))

-- The arrays of a table that could be written hold exactly what the rules' table reads of them.
pub arrays_back : (t : Table) → Shaped t → Fit t → arrays_of (table_of t) ≡ t
arrays_back t s f =
    let m = t.resource_count in
    let p = and_parts (every is_zero (drop m t.units) && every (needs_blank m) (take t.job_count t.jobs)) (every job_blank (drop t.job_count t.jobs)) f.blank in
    let q = and_parts (every is_zero (drop m t.units)) (every (needs_blank m) (take t.job_count t.jobs)) p.0 in
    table_same (arrays_of (table_of t)) t refl
    (numbers_back m max_resources t.units s.units_length q.0)
    (resources_listed t f s.units_length)
    (jobs_back t s (omega (arith, f.few_jobs, s.jobs_length)) q.1 p.1)
    (jobs_listed t f s.jobs_length)

-- ---- and back

-- Jobs that were made up with zeros are read as they were.
jobs_read : (m : ℕ) (js : List R.Job) → ((i : ℕ) → i < length js → length (get_or js i R.no_job).needs ≡ m) → map (job_in m) (map job_arrays js) ≡ js
jobs_read m [] h = refl
jobs_read m (j ∷ js) h =
    ap₂ (λ (ns : List ℕ) (ks : List R.Job). record { level = j.level; frame = j.frame; needs = ns } ∷ ks)
    (take_at j.needs _ m (h 0 (omega arith)))
    (jobs_read m js (λ i l. h (suc i) (omega arith)))

-- A table of the rules is read again from its arrays.
pub table_back : (t : R.Table) → ((j : ℕ) → j < R.job_count t → length (R.job_of t j).needs ≡ R.resource_count t) → table_of (arrays_of t) ≡ t
table_back t h =
    ap₂ (λ (us : List ℕ) (js : List R.Job). record { size = t.size; units = us; jobs = js })
    (take_at t.units _ (length t.units) refl)
    (ap (map (job_in (length t.units))) (take_at (map job_arrays t.jobs) _ (length t.jobs) (length-map t.jobs job_arrays)) ∙ jobs_read (length t.units) t.jobs h)
