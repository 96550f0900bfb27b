-- What was written is read back: the bytes of a table that could be written, whatever stands behind them, are read as that table, and all taken.
-- Each written field may stand, has its length and is in range, so reading goes on behind it, and what was read has grown by what was written.
use Rattle.std.specs.Prelude.{◌≡◌, refl, Bool, true, List, [], ◌∷◌, ◌++◌, ℕ, ◌+◌, ◌≤◌, ◌<◌, length}
use Rattle.std.proofs.Common.{ap, ap₂, sym, ◌∙◌, arith, append_assoc, append-nil, length-append, lt-ltb}
use Rattle.std.proofs.lemmas.Bool.{and_parts, and_from}
use Rattle.std.proofs.lemmas.Bool.Decides.{nat_tests}
use Rattle.rules.specs.Choice.{pick}
use Rattle.rules.specs.Limits.{max_jobs, max_resources, max_units, max_bytes}
use Rattle.rules.specs.Counting.{within, every}
use Rattle.rules.specs.Table.{Job, Table, job_good, stack_good, table_refusal}
use Rattle.rules.proofs.Counts.{none_above-length}
use Rattle.rules.proofs.Tables.{Writable, writable}
use Rattle.table.specs.Refusals.{refused_at}
use Rattle.field.specs.Field.{two, field}
use Rattle.field.specs.Laws.{two-pair}
use Rattle.field.proofs.Framed.{written_length, written_rest, written_framed}
use Rattle.tagged_table.specs.Form.{version, each, resource_bytes, job_bytes, fields_bytes, table_bytes, pairs, job_read, took, ended, table_reading}
use Rattle.tagged_table.specs.Form.{Sofar, nothing, stands, wants, good, grown, judged}
use Rattle.tagged_table.proofs.Walk.{reading_from, from_end, from_next, whole}
use Rattle.tagged_table.proofs.Lengths.{job_value, pairs-length}

-- ---- bytes that are read

-- Reading the bytes a, whatever stands behind them, leads from p to q.
record Reads (p : Sofar) (a : List ℕ) (q : Sofar) : Type 0 where
  leads : (rest : List ℕ) (at : ℕ) → reading_from p (a ++ rest) at ≡ reading_from q rest (at + length a)

none_read : (p : Sofar) → Reads p [] p
none_read p = record { leads = λ rest at. ap (reading_from p rest) (omega arith) }

then_read : {p q r : Sofar} {a b : List ℕ} → Reads p a q → Reads q b r → Reads p (a ++ b) r
then_read {p} {q} {r} {a} {b} f g = record {
  leads =
      λ rest at.
      ap (λ (x : List ℕ). reading_from p x at) (append_assoc a b rest)
      ∙ f.leads (b ++ rest) at
      ∙ g.leads rest (at + length a)
      ∙ ap (reading_from r rest) (simp length-append (omega arith));
}

-- A written field.
module _ (p : Sofar) (tag : ℕ) (v : List ℕ) (may : stands p tag ≡ true) (long : length v ≡ wants p tag) where
  written_judged : (rest : List ℕ) → good p tag (v ++ rest) ≡ true → judged p (field tag v ++ rest) ≡ 0
  unfolding judged
  written_judged rest g = simp (written_framed tag v rest (stands p) (wants p) may long, g)

  field_read : (q : Sofar) → (tag ≡ 5 → ⊥)
      → ((rest : List ℕ) → good p tag (v ++ rest) ≡ true) → ((rest : List ℕ) → grown p tag (v ++ rest) ≡ q)
      → Reads p (field tag v) q
  field_read q n g e = record {
    leads =
        λ rest at.
        from_next p (field tag v ++ rest) at (written_judged rest (g rest)) n
        ∙ ap₂ (reading_from (grown p tag (v ++ rest))) (written_rest tag v rest) (omega (arith, written_length tag v rest))
        ∙ ap (λ (x : Sofar). reading_from x rest (at + length (field tag v))) (e rest);
  }

-- Fields of one kind: if reading any one of them adds it, then reading all of them adds them all.
module _ {A : Type 0} (f : A → List ℕ) (fits : A → Bool) (most : ℕ) (with : List A → Sofar)
    (one : (xs : List A) (x : A) → length xs < most → fits x ≡ true → Reads (with xs) (f x) (with (xs ++ x ∷ []))) where
  each_read : (xs ys : List A) → length xs + length ys ≤ most → every fits ys ≡ true → Reads (with xs) (each f ys) (with (xs ++ ys))
  unfolding every
  each_read xs [] h g = simp append-nil (none_read (with xs))
  each_read xs (y ∷ ys) h g =
      let here : length xs < most = omega arith in
      let more : length (xs ++ y ∷ []) + length ys ≤ most = simp length-append (omega arith) in
      then_read (one xs y here (and_parts _ _ g).0) (simp append_assoc at (each_read (xs ++ y ∷ []) ys more (and_parts _ _ g).1))

-- ---- the fields of a table

pairs_read : (ns rest : List ℕ) → pairs (length ns) (each two ns ++ rest) ≡ ns
pairs_read [] rest = refl
pairs_read (n ∷ ns) rest = ap₂ ◌∷◌ (two-pair n) (pairs_read ns rest)

job_is_read : (j : Job) (rest : List ℕ) → job_read (length j.needs) (job_value j ++ rest) ≡ j
job_is_read j rest =
    ap₂ (λ (f : ℕ) (ns : List ℕ). record { level = j.level; frame = f; needs = ns }) (two-pair j.frame) (pairs_read j.needs rest)

-- What has been read, with the last tag.
abbrev stage : ℕ → ℕ → List ℕ → List Job → Sofar
stage last size units jobs = record { last = last; table = record { size = size; units = units; jobs = jobs } }

-- The last tag after the resources.
after_resources : List ℕ → ℕ
after_resources [] = 2
after_resources (u ∷ us) = 3

after_resources_within : (units : List ℕ) → within 2 4 (after_resources units) ≡ true
unfolding after_resources
after_resources_within [] = refl
after_resources_within (u ∷ us) = refl

version_read : Reads nothing (field 1 (version ∷ [])) (stage 1 0 [] [])
unfolding stands wants good grown
version_read = field_read nothing 1 (version ∷ []) refl refl (stage 1 0 [] []) (λ e. omega arith) (λ r. refl) (λ r. refl)

module _ (size : ℕ) where
  size_read : within 1 max_bytes size ≡ true → Reads (stage 1 0 [] []) (field 2 (two size)) (stage 2 size [] [])
  unfolding stands wants good grown
  size_read g =
      field_read (stage 1 0 [] []) 2 (two size) refl refl (stage 2 size [] []) (λ e. omega arith) (λ r. simp two-pair g) (λ r. simp two-pair)

  -- The tag before a resource is 02 or 03 ..
  resource_field_read : (last : ℕ) → within 2 3 last ≡ true → (units : List ℕ) (u : ℕ) → length units < max_resources
      → within 1 max_units u ≡ true
      → Reads (stage last size units []) (resource_bytes u) (stage 3 size (units ++ u ∷ []) [])
  unfolding stands wants good grown
  resource_field_read last l units u m g =
      field_read (stage last size units []) 3 (two u) (and_from _ _ l (lt-ltb _ _ m)) refl (stage 3 size (units ++ u ∷ []) [])
      (λ e. omega arith) (λ r. simp two-pair g) (λ r. simp two-pair)

  -- .. and before a job 02, 03 or 04.
  job_field_read : (units : List ℕ) (last : ℕ) → within 2 4 last ≡ true → (jobs : List Job) (j : Job) → length jobs < max_jobs
      → job_good units j ≡ true
      → Reads (stage last size units jobs) (job_bytes j) (stage 4 size units (jobs ++ j ∷ []))
  unfolding stands wants good grown
  job_field_read units last l jobs j m g =
      let n : length j.needs ≡ length units = none_above-length units j.needs (grind arith) in
      let same : (r : List ℕ) → job_read (length units) (job_value j ++ r) ≡ j =
      λ (r : List ℕ). ap (λ (k : ℕ). job_read k (job_value j ++ r)) (sym n) ∙ job_is_read j r in
      field_read (stage last size units jobs) 4 (job_value j) (and_from _ _ l (lt-ltb _ _ m)) (omega (arith, pairs-length j.needs))
      (stage 4 size units (jobs ++ j ∷ [])) (λ e. omega arith) (λ r. ap (job_good units) (same r) ∙ g)
      (λ r. ap (λ (k : Job). stage 4 size units (jobs ++ k ∷ [])) (same r))

  resources_read : (units : List ℕ) → length units ≤ max_resources → every (within 1 max_units) units ≡ true
      → Reads (stage 2 size [] []) (each resource_bytes units) (stage (after_resources units) size units [])
  unfolding every after_resources
  resources_read [] h g = none_read (stage 2 size [] [])
  resources_read (u ∷ us) h g =
      then_read (resource_field_read 2 refl [] u (omega arith) (and_parts _ _ g).0)
      (each_read resource_bytes (within 1 max_units) max_resources (λ (us : List ℕ). stage 3 size us []) (resource_field_read 3 refl)
      (u ∷ []) us (omega arith) (and_parts _ _ g).1)

  jobs_read : (units : List ℕ) (last : ℕ) → within 2 4 last ≡ true → (jobs : List Job) → within 1 max_jobs (length jobs) ≡ true
      → every (job_good units) jobs ≡ true
      → Reads (stage last size units []) (each job_bytes jobs) (stage 4 size units jobs)
  unfolding every
  jobs_read units last l [] h g = absurd (grind (arith, nat_tests))
  jobs_read units last l (j ∷ js) h g =
      let m : 1 + length js ≤ max_jobs = grind (arith, nat_tests) in
      then_read (job_field_read units last l [] j (omega arith) (and_parts _ _ g).0)
      (each_read job_bytes (job_good units) max_jobs (stage 4 size units) (job_field_read units 4 refl) (j ∷ []) js m (and_parts _ _ g).1)

-- ---- a table

fields_read : (t : Table) → Writable t → Reads nothing (fields_bytes t) (stage 4 t.size t.units t.jobs)
fields_read t w =
    then_read (then_read (then_read version_read (size_read t.size w.size)) (resources_read t.size t.units w.few w.units))
    (jobs_read t.size t.units (after_resources t.units) (after_resources_within t.units) t.jobs w.some w.jobs)

-- The end field.
end_read : (t : Table) (rest : List ℕ) (at : ℕ) → stack_good t ≡ true
    → reading_from (stage 4 t.size t.units t.jobs) (field 5 [] ++ rest) at ≡ took (at + 3) t
unfolding stands wants good ended
end_read t rest at g =
    let p : Sofar = stage 4 t.size t.units t.jobs in
    from_end p (field 5 [] ++ rest) at (written_judged p 5 [] refl refl rest refl) refl
    ∙ ap (λ (b : Bool). pick b (took (at + 3) t) (refused_at 5 (at + 3))) g

pub read_written : (t : Table) → table_refusal t ≡ 0 → (rest : List ℕ) → table_reading (table_bytes t ++ rest) ≡ took (length (table_bytes t)) t
read_written t h rest =
    let w = writable t h in
    let n = length (fields_bytes t) in
    whole (table_bytes t ++ rest)
    ∙ ap (λ (x : List ℕ). reading_from nothing x 0) (append_assoc (fields_bytes t) (field 5 []) rest)
    ∙ (fields_read t w).leads (field 5 [] ++ rest) 0
    ∙ end_read t rest (0 + n) w.stack
    ∙ ap (λ (k : ℕ). took k t) (simp length-append (omega arith))
