-- The longest table: no table that could be written takes more bytes than 756 at today's limits, and one takes that many.
-- A table's length is the sum of its fields' lengths, each is the length that its tag wants, and the limits say how many there may be.
use Rattle.std.specs.Prelude.{◌≡◌, refl, Bool, true, List, [], ◌∷◌, ℕ, zero, suc, ◌+◌, ◌*◌, ◌≤◌, ◌<◌, length, replicate, eqb}
use Rattle.std.proofs.Common.{ap, arith, zero-le, le_refl, ◌∙◌, length-append, le-leb}
use Rattle.std.proofs.lemmas.Bool.{and_parts}
use Rattle.std.proofs.lemmas.Bool.Decides.{nat_tests}
use Rattle.std.proofs.lemmas.List.{length-replicate, get_or-replicate}
use Rattle.std.proofs.Math.Nat.{mul-suc, mul-le-mul}
use Rattle.rules.specs.Limits.{max_jobs, max_resources, max_units, max_level, max_bytes}
use Rattle.rules.specs.Counting.{sum_below, within, every}
use Rattle.rules.specs.Table.{Job, Table, job_count, resource_count, no_job, room_of, level_of, job_good, largest_at, worst, table_refusal}
use Rattle.rules.proofs.Choices.{pick_case}
use Rattle.rules.proofs.Counts.{max_below_le, every_replicate, none_above-length, none_above_zeros}
use Rattle.rules.proofs.Tables.{Writable, writable, unrefused}
use Rattle.tagged_table.specs.Form.{each, resource_bytes, job_bytes, table_bytes}
use Rattle.tagged_table.proofs.Lengths.{resources-length, pairs-length}

-- ---- the length of a table

-- What is of one length for each element is that often its length for all.
each-length : {A : Type 0} (f : A → List ℕ) (fits : A → Bool) (n : ℕ) → ((x : A) → fits x ≡ true → length (f x) ≡ n)
    → (xs : List A) → every fits xs ≡ true → length (each f xs) ≡ n * length xs
unfolding every
each-length f fits n one [] h = omega arith
each-length f fits n one (x ∷ xs) h =
    let p = and_parts (fits x) (every fits xs) h in
    rw (mul-suc n (length xs)) (simp length-append (omega (arith, one x p.0, each-length f fits n one xs p.1)))

job-length : (units : List ℕ) (j : Job) → job_good units j ≡ true → length (job_bytes j) ≡ 6 + 2 * length units
job-length units j g = omega (arith, pairs-length j.needs, none_above-length units j.needs (grind arith))

pub table-length : (t : Table) → Writable t → length (table_bytes t) ≡ 12 + (5 * resource_count t + (6 + 2 * resource_count t) * job_count t)
table-length t w =
    let a : length (each resource_bytes t.units) ≡ 5 * resource_count t = resources-length t.units in
    let b : length (each job_bytes t.jobs) ≡ (6 + 2 * resource_count t) * job_count t =
    each-length job_bytes (job_good t.units) (6 + 2 * resource_count t) (job-length t.units) t.jobs w.jobs in
    simp length-append (omega arith)

-- ---- no table is longer

-- Neither the most resources nor the most jobs are a number here.
most : (r j resources jobs : ℕ) → r ≤ resources → j ≤ jobs → 5 * r + (6 + 2 * r) * j ≤ 5 * resources + (6 + 2 * resources) * jobs
most r j resources jobs h k =
    let m : (6 + 2 * r) * j ≤ (6 + 2 * resources) * jobs = mul-le-mul (omega arith) k in
    omega arith

pub longest : (t : Table) → table_refusal t ≡ 0 → length (table_bytes t) ≤ 4 + 5 + 5 * max_resources + (6 + 2 * max_resources) * max_jobs + 3
longest t h =
    let w = writable t h in
    let m = most (resource_count t) (job_count t) max_resources max_jobs w.few (grind (arith, nat_tests)) in
    omega (arith, table-length t w)

-- At today's limits: the one check here that reads their numbers.
pub longest_now : 4 + 5 + 5 * max_resources + (6 + 2 * max_resources) * max_jobs + 3 ≡ 756
longest_now = refl

-- ---- one table is as long

sum_below_le : (n : ℕ) (f : ℕ → ℕ) → ((i : ℕ) → f i ≤ 1) → sum_below n f ≤ n
unfolding sum_below
sum_below_le zero f h = zero-le
sum_below_le (suc n) f h = omega (arith, h n, sum_below_le n f h)

-- A job that needs none of n resources.
abbrev least_job : ℕ → Job
least_job n = record { level = 1; frame = 1; needs = replicate n 0 }

-- A table with this many resources and jobs.
abbrev table_with : ℕ → ℕ → Table
table_with resources jobs = record { size = max_bytes; units = replicate resources 1; jobs = replicate jobs (least_job resources) }

module _ (resources jobs : ℕ) where
  worst_with : worst (table_with resources jobs) ≤ suc max_level
  unfolding worst
  worst_with = sum_below_le (suc max_level) (largest_at (table_with resources jobs)) largest
    where
      largest : (l : ℕ) → largest_at (table_with resources jobs) l ≤ 1
      largest l =
          let t : Table = table_with resources jobs in
          max_below_le (job_count t) _ 1
          (λ j h.
          let i : j < jobs = omega (arith, length-replicate jobs (least_job resources)) in
          let e : room_of t j ≡ 1 = ap (λ (x : Job). x.frame) (get_or-replicate jobs j (least_job resources) no_job i) in
          pick_case (λ (n : ℕ). n ≤ 1) (eqb (level_of t j) l) (room_of t j) 0 (λ q. omega (arith, e)) (λ q. zero-le))

  could_be_written : resources ≤ max_resources → 1 ≤ jobs → jobs ≤ max_jobs → Writable (table_with resources jobs)
  could_be_written few some room = record {
    size = refl;
    few = omega (arith, length-replicate {A = ℕ} resources 1);
    units = every_replicate (within 1 max_units) resources 1 refl;
    some = rw (length-replicate jobs (least_job resources)) (grind (arith, nat_tests));
    jobs =
        every_replicate (job_good (replicate resources 1)) jobs (least_job resources)
        (none_above_zeros (replicate resources 1) resources (length-replicate {A = ℕ} resources 1));
    stack = le-leb _ _ (omega (arith, worst_with));
  }

  with_length : Writable (table_with resources jobs)
      → length (table_bytes (table_with resources jobs)) ≡ 12 + (5 * resources + (6 + 2 * resources) * jobs)
  with_length w =
      let r = length-replicate {A = ℕ} resources 1 in
      let j = length-replicate jobs (least_job resources) in
      table-length (table_with resources jobs) w ∙ simp (r, j)

-- A table with as many resources and jobs as there may be takes as many bytes.
pub longest_table : Table
longest_table = table_with max_resources max_jobs

longest_writable : Writable longest_table
unfolding longest_table
longest_writable = could_be_written max_resources max_jobs (le_refl max_resources) (omega arith) (le_refl max_jobs)

pub longest_table_good : table_refusal longest_table ≡ 0
longest_table_good = unrefused longest_table longest_writable

pub longest_table-length : length (table_bytes longest_table) ≡ 4 + 5 + 5 * max_resources + (6 + 2 * max_resources) * max_jobs + 3
unfolding longest_table
longest_table-length = with_length max_resources max_jobs longest_writable
