-- What storing a field's value leaves, tag by tag: the arrays that held what had been read hold what is known after the field.
-- A number more is one more place of its array (`padded_put`), and the field's tag makes `good` and `grown` compute.
use Rattle.std.specs.Prelude.{◌≡◌, refl, ◌⊎◌, Bool, true, false, map, List, [], ◌∷◌, ℕ, ◌+◌, ◌≤◌, ◌<◌, length, get_or, set, take, Result, Ok, Err}
use Rattle.std.proofs.Common.{sym, ap, ap₂, subst, ◌∙◌, true≢false, arith}
use Rattle.std.proofs.lemmas.List.{length-map, length_push, map-append}
use Rattle.std.proofs.Math.Seq.{take-append_seam}
use Rattle.std.proofs.lemmas.Bool.Decides.{nat_tests}
use Rattle.rules.specs.Choice.{pick}
use Rattle.rules.specs.Limits.{max_jobs, max_resources, max_units, max_bytes}
use Rattle.rules.specs.Table as R
use Rattle.rules.specs.Table.{job_good}
use Rattle.table.specs.declared.Job.{Job}
use Rattle.table.specs.declared.Table.{Table}
use Rattle.table.specs.declared.RefusedAt.{RefusedAt}
use Rattle.table.specs.declared.Refusal.TheVariants.{ValueOutOfRange}
use Rattle.table.specs.Arrays.{padded, job_arrays, job_of_zeros, arrays_of}
use Rattle.table.proofs.Padded.{padded_put}
use Rattle.field.specs.Field.{pair_at}
use Rattle.tagged_table.specs.Form.{Sofar, good, grown, job_read, with_units, with_job}
use Rattle.tagged_table.specs.Parts.{job_answer, Stores}

-- a job that was answered is one in range, and the job of the value
answered : (b : Bool) (x y : Job) (e : RefusedAt) → Ok y ≡ pick b (Ok x) (Err e) → (b ≡ true) × (y ≡ x)
answered true x y e h = (refl, grind arith)
answered false x y e h = absurd (grind arith)

-- a job that was refused is one out of range
not_answered : (b : Bool) (x : Job) (e f : RefusedAt) → Err f ≡ pick b (Ok x) (Err e) → (b ≡ false) × (f ≡ e)
not_answered true x e f h = absurd (grind arith)
not_answered false x e f h = (refl, grind arith)

jobs_more : (t : R.Table) (j : R.Job) → length t.jobs < max_jobs
    → record { size = t.size; units = (arrays_of t).units; resource_count = length t.units; jobs = set (arrays_of t).jobs (length t.jobs) (job_arrays j); job_count = length t.jobs + 1 }
    ≡ arrays_of (with_job t j)
jobs_more t j h =
    let js = map job_arrays t.jobs in
    let n : length js ≡ length t.jobs = length-map t.jobs job_arrays in
    ap₂ (λ (xs : List Job) (k : ℕ). record { size = t.size; units = (arrays_of t).units; resource_count = length t.units; jobs = xs; job_count = k })
    (ap (λ (i : ℕ). set (padded job_of_zeros max_jobs js) i (job_arrays j)) (sym n)
    ∙ padded_put job_of_zeros max_jobs js (job_arrays j) (omega arith)
    ∙ ap (padded job_of_zeros max_jobs) (sym (map-append job_arrays t.jobs (j ∷ []))))
    (sym (length_push t.jobs j))

module _ (old : Table) (v : List ℕ) (place : ℕ) where
  abbrev refused : Result (Unit {0}) RefusedAt
  refused = Err (record { refusal = ValueOutOfRange; place = place })

  none_stored : (new : Table) (tag : ℕ) → ((p : Sofar) → old ≡ arrays_of p.table → good p tag v ≡ false) → Stores old new tag v place refused
  none_stored new tag h =
      record {
        out_of_range = λ p e g. refl;
        in_range = λ p e g. absurd (true≢false (sym g ∙ h p e));
      }

  all_stored : (new : Table) (tag : ℕ) → ((p : Sofar) → old ≡ arrays_of p.table → (good p tag v ≡ true) × (new ≡ arrays_of (grown p tag v).table))
      → Stores old new tag v place (Ok tt)
  all_stored new tag h =
      record {
        out_of_range = λ p e g. absurd (true≢false (sym (h p e).0 ∙ g));
        in_range = λ p e g. (refl, (h p e).1);
      }

  -- ---- the fields of one number

  pub version_stored : (tag : ℕ) → tag ≡ 1 → get_or v 0 0 ≡ 1 → Stores old old tag v place (Ok tt)
  unfolding good grown
  version_stored tag i h = rw i (all_stored old 1 (λ p e. (grind (arith, nat_tests), e)))

  pub version_refused : (tag : ℕ) → tag ≡ 1 → (get_or v 0 0 ≡ 1 → ⊥) → (new : Table) → Stores old new tag v place refused
  unfolding good
  version_refused tag i h new = rw i (none_stored new 1 (λ p e. grind (arith, nat_tests)))

  pub size_stored : (tag : ℕ) → tag ≡ 2 → (n : ℕ) → n ≡ pair_at v 0 → 0 < n → n ≤ max_bytes
      → Stores old (record { size = n; units = old.units; resource_count = old.resource_count; jobs = old.jobs; job_count = old.job_count }) tag v place (Ok tt)
  unfolding good grown
  size_stored tag i n q a b =
      rw i (all_stored _ 2 (λ p e. (
        grind (arith, nat_tests),
        ap (λ (t : Table). record { size = n; units = t.units; resource_count = t.resource_count; jobs = t.jobs; job_count = t.job_count }) e
            ∙ ap (λ (k : ℕ). arrays_of (record { size = k; units = p.table.units; jobs = p.table.jobs })) q,
      )))

  pub size_refused : (tag : ℕ) → tag ≡ 2 → pair_at v 0 ≡ 0 → (new : Table) → Stores old new tag v place refused
  unfolding good
  size_refused tag i h new = rw i (none_stored new 2 (λ p e. grind (arith, nat_tests)))

  pub units_stored : (tag : ℕ) → tag ≡ 3 → (n : ℕ) → n ≡ pair_at v 0 → 0 < n → n ≤ max_units → old.resource_count < max_resources
      → Stores old (record { size = old.size; units = set old.units old.resource_count n; resource_count = old.resource_count + 1; jobs = old.jobs; job_count = old.job_count }) tag v place (Ok tt)
  unfolding good grown
  units_stored tag i n q a b l =
      rw i (all_stored _ 3 (λ p e. (
        grind (arith, nat_tests),
        let few : length p.table.units < max_resources = subst (λ (t : Table). t.resource_count < max_resources) e l in
            ap (λ (t : Table). record { size = t.size; units = set t.units t.resource_count n; resource_count = t.resource_count + 1; jobs = t.jobs; job_count = t.job_count }) e
            ∙ ap₂ (λ (us : List ℕ) (k : ℕ). record { size = p.table.size; units = us; resource_count = k; jobs = (arrays_of p.table).jobs; job_count = length p.table.jobs })
            (padded_put 0 max_resources p.table.units n few) (sym (length_push p.table.units n))
            ∙ ap (λ (k : ℕ). arrays_of (with_units p.table k)) q,
      )))

  pub units_refused : (tag : ℕ) → tag ≡ 3 → (pair_at v 0 ≡ 0) ⊎ (max_units < pair_at v 0) → (new : Table) → Stores old new tag v place refused
  unfolding good
  units_refused tag i h new = rw i (none_stored new 3 (λ p e. grind (arith, nat_tests)))

  -- ---- a job, and the end

  answer_known : (us : List ℕ) → us ≡ take old.resource_count old.units → (p : Sofar) → old ≡ arrays_of p.table → us ≡ p.table.units
  answer_known us q p e = q ∙ ap (λ (t : Table). take t.resource_count t.units) e ∙ take-append_seam p.table.units _

  pub job_stored : (tag : ℕ) → tag ≡ 4 → (us : List ℕ) → us ≡ take old.resource_count old.units → (j : Job) → Ok j ≡ job_answer us v place → old.job_count < max_jobs
      → Stores old (record { size = old.size; units = old.units; resource_count = old.resource_count; jobs = set old.jobs old.job_count j; job_count = old.job_count + 1 }) tag v place (Ok tt)
  unfolding good grown
  job_stored tag i us q j r l =
      rw i (all_stored _ 4 (λ p e.
      let k = answered (job_good p.table.units (job_read (length p.table.units) v)) (job_arrays (job_read (length p.table.units) v)) j (record { refusal = ValueOutOfRange; place = place })
      (r ∙ ap (λ (xs : List ℕ). job_answer xs v place) (answer_known us q p e)) in
      let few : length p.table.jobs < max_jobs = subst (λ (t : Table). t.job_count < max_jobs) e l in (
        k.0,
        ap (λ (t : Table). record { size = t.size; units = t.units; resource_count = t.resource_count; jobs = set t.jobs t.job_count j; job_count = t.job_count + 1 }) e
            ∙ ap (λ (x : Job). record {
              size = p.table.size;
              units = (arrays_of p.table).units;
              resource_count = length p.table.units;
              jobs = set (arrays_of p.table).jobs (length p.table.jobs) x;
              job_count = length p.table.jobs + 1;
            }) k.1
            ∙ jobs_more p.table (job_read (length p.table.units) v) few,
      )))

  pub job_refused : (tag : ℕ) → tag ≡ 4 → (us : List ℕ) → us ≡ take old.resource_count old.units → (e : RefusedAt) → Err e ≡ job_answer us v place
      → (new : Table) → Stores old new tag v place (Err e)
  unfolding good
  job_refused tag i us q x r new =
      let k : (p : Sofar) → old ≡ arrays_of p.table → (job_good p.table.units (job_read (length p.table.units) v) ≡ false) × (x ≡ record { refusal = ValueOutOfRange; place = place }) =
      λ p e. not_answered (job_good p.table.units (job_read (length p.table.units) v)) (job_arrays (job_read (length p.table.units) v))
      (record { refusal = ValueOutOfRange; place = place }) x (r ∙ ap (λ (xs : List ℕ). job_answer xs v place) (answer_known us q p e)) in
      rw i (record {
        out_of_range = λ p e g. ap Err (k p e).1;
        in_range = λ p e g. absurd (true≢false (sym g ∙ (k p e).0));
      })

  pub end_stored : (tag : ℕ) → tag ≡ 5 → Stores old old tag v place (Ok tt)
  unfolding good grown
  end_stored tag i = rw i (all_stored old 5 (λ p e. (refl, e)))
