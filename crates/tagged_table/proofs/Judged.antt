-- What judging tells of a table in arrays that could be written: its counts are those of the table that the arrays hold, that table could be
-- written, and its bytes are as many as the counts say. By the judgement's three tests, each of which passes.
use Rattle.std.specs.Prelude.{◌≡◌, refl, List, [], ◌∷◌, ◌++◌, ℕ, zero, suc, ◌+◌, ◌*◌, ◌≤◌, ◌<◌, length, Ok, Err}
use Rattle.std.proofs.Common.{sym, ap, ap₂, ◌∙◌, arith, length-append, lt-ltb, le-ltb}
use Rattle.std.proofs.lemmas.List.Edits.{sets}
use Rattle.rules.specs.Limits.{max_jobs, max_resources}
use Rattle.rules.specs.Table as R
use Rattle.rules.specs.Table.{stack_good, table_checks}
use Rattle.rules.proofs.Tables.{Writable, writable}
use Rattle.table.specs.declared.Table.{Table}
use Rattle.table.specs.Arrays.{table_of}
use Rattle.table.specs.Judging.{table_judged}
use Rattle.table.proofs.Fit.{fit, resources_listed, jobs_listed, fit_written}
use Rattle.field.specs.Field.{two, field}
use Rattle.field.proofs.Stores.{sets_next, sets_over}
use Rattle.tagged_table.specs.Answers.{write_judged, write_answer, write_out}
use Rattle.tagged_table.specs.Form.{version, each, resource_bytes, job_bytes, table_bytes}
use Rattle.tagged_table.proofs.Lengths.{resources-length}
use Rattle.tagged_table.proofs.Longest.{table-length}

pub record Counted (t : Table) : Type 0 where
  pub few : t.resource_count ≤ max_resources
  pub resources : R.resource_count (table_of t) ≡ t.resource_count
  pub jobs : R.job_count (table_of t) ≡ t.job_count
  pub writable : Writable (table_of t)

pub counted : (t : Table) → length t.units ≡ max_resources → length t.jobs ≡ max_jobs → table_judged t ≡ 0 → Counted t
counted t u j e =
    let f = fit t e in
    record {
      few = f.few_resources;
      resources = resources_listed t f u;
      jobs = jobs_listed t f j;
      writable = writable (table_of t) (fit_written t e j);
    }

sum_moved : (a b : ℕ) → 12 + a + b ≡ 12 + (a + b)
sum_moved a b = omega arith

pub counted_length : (t : Table) → Counted t → 12 + 5 * t.resource_count + (6 + 2 * t.resource_count) * t.job_count ≡ length (table_bytes (table_of t))
counted_length t c =
    sum_moved (5 * t.resource_count) ((6 + 2 * t.resource_count) * t.job_count)
    ∙ ap₂ (λ (m n : ℕ). 12 + (5 * m + (6 + 2 * m) * n)) (sym c.resources) (sym c.jobs)
    ∙ sym (table-length (table_of t) c.writable)

-- ---- the fields, one behind the other

pub end_behind : (a b end : ℕ) → end ≡ 9 + a + b → 12 + a + b ≡ end + 3
end_behind a b end e = omega (arith, e)

-- The parts of a table's bytes, stored where each begins, are the table's bytes stored.
pub table_put : (t : R.Table) (out : List ℕ) (at end : ℕ) → at ≡ 9 + 5 * R.resource_count t → length (table_bytes t) ≡ end + 3
    → sets (sets (sets (sets (sets (sets out 0 (1 ∷ 0 ∷ 1 ∷ [])) 3 (version ∷ [])) 4 (field 2 (two t.size))) 9 (each resource_bytes t.units))
    at (each job_bytes t.jobs)) end (5 ∷ 0 ∷ 0 ∷ [])
    ≡ sets out 0 (table_bytes t)
table_put t out at end d e =
    let a = 1 ∷ 0 ∷ 1 ∷ version ∷ [] in
    let b = a ++ field 2 (two t.size) in
    let u = each resource_bytes t.units in
    let j = each job_bytes t.jobs in
    let k : length u ≡ 5 * R.resource_count t = resources-length t.units in
    let q : 9 + length u + length j + 3 ≡ end + 3 = simp length-append at e in
    let n : end ≡ length (b ++ u ++ j) = simp length-append (omega (arith, q)) in
    ap (λ (o : List ℕ). sets (sets o at j) end (5 ∷ 0 ∷ 0 ∷ [])) (sets_next out 0 9 b u refl)
    ∙ ap (λ (o : List ℕ). sets o end (5 ∷ 0 ∷ 0 ∷ [])) (sets_next out 0 at (b ++ u) j (simp length-append (omega (arith, d, k))))
    ∙ sets_next out 0 end (b ++ u ++ j) (5 ∷ 0 ∷ 0 ∷ []) (omega (arith, n))

-- ---- the outcomes of writing

module _ (t : Table) (out : List ℕ) where
  write_refused : (k : ℕ) → write_judged t (length out) ≡ suc k → (write_answer t (length out) ≡ Err (suc k)) × (write_out t out ≡ out)
  unfolding write_answer write_out
  write_refused k e = (simp e, simp e)

  -- 2, 4 or 5
  pub judged_refused : (k : ℕ) → (k ≡ 0 → ⊥) → k ≡ table_judged t → (Err k ≡ write_answer t (length out)) × (out ≡ write_out t out)
  unfolding write_judged
  judged_refused zero n e = absurd (n refl)
  judged_refused (suc k) n e = let w = write_refused k (simp (sym e)) in (sym w.0, sym w.1)

  module _ (j : table_judged t ≡ 0) where
    -- 6
    pub short_refused : length out < length (table_bytes (table_of t)) → (Err 6 ≡ write_answer t (length out)) × (out ≡ write_out t out)
    unfolding write_judged
    short_refused l = let w = write_refused 5 (simp (j, lt-ltb (length out) (length (table_bytes (table_of t))) l)) in (sym w.0, sym w.1)

    pub all_written : length (table_bytes (table_of t)) ≤ length out
        → (Ok (length (table_bytes (table_of t))) ≡ write_answer t (length out)) × (sets out 0 (table_bytes (table_of t)) ≡ write_out t out)
    unfolding write_judged write_answer write_out
    all_written l =
        let g = le-ltb (length out) (length (table_bytes (table_of t))) l in
        (simp (j, g), sets_over out (table_bytes (table_of t)) l ∙ simp (j, g))
