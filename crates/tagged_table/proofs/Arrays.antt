-- The round trips of the code's own tables: what was written is read back as the same arrays, and what was read is written as it was.
-- The rules' tables go round (`read_written`, `write_read`), and such arrays hold nothing beside their table: past its counts all is zero.
use Rattle.std.specs.Prelude.{◌≡◌, refl, true, ◌&&◌, List, [], ◌∷◌, ◌++◌, map, ℕ, ◌-◌, ◌≤◌, length, take, drop, Ok}
use Rattle.std.proofs.Common.{ap, ap₂, sym, ◌∙◌, arith, take_at}
use Rattle.std.proofs.lemmas.Bool.{and_parts, and_from}
use Rattle.std.proofs.lemmas.List.{length-map}
use Rattle.std.proofs.Math.Bool.{and-true}
use Rattle.rules.specs.Limits.{max_jobs, max_resources}
use Rattle.rules.specs.Choice.{first_bad}
use Rattle.rules.specs.Counting.{every}
use Rattle.rules.specs.Table as R
use Rattle.rules.specs.Table.{job_good, values_good, stack_good, table_checks, table_refusal}
use Rattle.rules.proofs.Counts.{every_replicate, none_above-length}
use Rattle.rules.proofs.Tables.{Writable, writable, unrefused, good_table}
use Rattle.table.specs.declared.Table.{Table}
use Rattle.table.specs.Arrays.{table_of, job_arrays, job_of_zeros, arrays_of, Shaped}
use Rattle.table.specs.Judging.{is_zero, needs_blank, job_blank, blank, counts_fit, table_judged}
use Rattle.table.proofs.Fit.{fit}
use Rattle.table.proofs.Padded.{every_padded}
use Rattle.table.proofs.Back.{arrays_back, table_back}
use Rattle.field.specs.Laws.{Bytes}
use Rattle.field.proofs.Stores.{sets_over}
use Rattle.tagged_table.specs.Form.{table_bytes, took, table_reading}
use Rattle.tagged_table.specs.Answers.{write_answer, write_out}
use Rattle.tagged_table.proofs.ReadBack.{read_written}
use Rattle.tagged_table.proofs.WriteBack.{read_good, write_read, read_length}
use Rattle.tagged_table.proofs.Judged.{counted, all_written}

-- What writing leaves in the output, of a table that could be written and fits.
written : (t : Table) (out : List ℕ) → table_judged t ≡ 0 → length (table_bytes (table_of t)) ≤ length out
    → write_out t out ≡ table_bytes (table_of t) ++ drop (length (table_bytes (table_of t))) out
written t out j l = sym (all_written t out j l).1 ∙ sets_over out (table_bytes (table_of t)) l

-- ---- what was written, read

-- Reading what was written hands back the arrays that were written.
pub stored_read : (t : Table) (out : List ℕ) → Shaped t → table_judged t ≡ 0 → length (table_bytes (table_of t)) ≤ length out
    → (table_reading (write_out t out) ≡ took (length (table_bytes (table_of t))) (table_of t)) × (arrays_of (table_of t) ≡ t)
stored_read t out s j l =
    let w : Writable (table_of t) = (counted t s.units_length s.jobs_length j).writable in (
      ap table_reading (written t out j l)
          ∙ read_written (table_of t) (unrefused (table_of t) w) (drop (length (table_bytes (table_of t))) out),
      arrays_back t s (fit t j),
    )

-- ---- what was read, written

zeros_blank : job_blank job_of_zeros ≡ true
zeros_blank = every_replicate is_zero (max_resources - 0) 0 refl

listed_blank : (units : List ℕ) (js : List R.Job) → every (job_good units) js ≡ true → every (needs_blank (length units)) (map job_arrays js) ≡ true
unfolding every
listed_blank units [] h = refl
listed_blank units (j ∷ js) h =
    let p = and_parts (job_good units j) (every (job_good units) js) h in
    let n : length j.needs ≡ length units = none_above-length units j.needs (grind arith) in
    and_from _ _ (every_padded is_zero 0 max_resources (length units) j.needs refl n) (listed_blank units js p.1)

arrays_blank : (t : R.Table) → Writable t → blank (arrays_of t) ≡ true
arrays_blank t w =
    let js = map job_arrays t.jobs in
    let n : length js ≡ length t.jobs = length-map t.jobs job_arrays in
    and_from _ _
    (and_from _ _
    (every_padded is_zero 0 max_resources (length t.units) t.units refl refl)
    (ap (every (needs_blank (length t.units))) (take_at js _ (length t.jobs) n) ∙ listed_blank t.units t.jobs w.jobs))
    (every_padded job_blank job_of_zeros max_jobs (length t.jobs) js zeros_blank n)

-- The arrays of a table that could be written could be written, and hold that table.
module _ (t : R.Table) (g : table_refusal t ≡ 0) where
  same_table : table_of (arrays_of t) ≡ t
  same_table = table_back t (good_table t g).full

  arrays_judged : table_judged (arrays_of t) ≡ 0
  unfolding table_judged first_bad table_refusal
  arrays_judged =
      let b : blank (arrays_of t) ≡ true = arrays_blank t (writable t g) in
      ap (λ (x : R.Table). first_bad (table_checks (counts_fit (arrays_of t)) (values_good x && blank (arrays_of t)) (stack_good x))) same_table
      ∙ simp (b, and-true) g

-- What was read could be written.
pub read_judged : (s : List ℕ) (n : ℕ) (t : R.Table) → table_reading s ≡ took n t → table_judged (arrays_of t) ≡ 0
read_judged s n t e = arrays_judged t (read_good s n t e)

-- Writing what was read gives the bytes that were taken.
pub read_stored : (s out : List ℕ) → Bytes s → (n : ℕ) (t : R.Table) → table_reading s ≡ took n t → n ≤ length out
    → (write_answer (arrays_of t) (length out) ≡ Ok n) × (write_out (arrays_of t) out ≡ take n s ++ drop n out)
read_stored s out y n t e l =
    let a = arrays_of t in
    let same : table_of a ≡ t = same_table t (read_good s n t e) in
    let k : length (table_bytes (table_of a)) ≡ n = ap (λ (x : R.Table). length (table_bytes x)) same ∙ read_length s y n t e in
    let j : table_judged a ≡ 0 = read_judged s n t e in
    let fits : length (table_bytes (table_of a)) ≤ length out = omega (arith, k, l) in (
      sym (all_written a out j fits).0 ∙ ap Ok k,
      written a out j fits
          ∙ ap₂ (λ (b : List ℕ) (i : ℕ). b ++ drop i out) (ap table_bytes same ∙ write_read s y n t e) k,
    )
