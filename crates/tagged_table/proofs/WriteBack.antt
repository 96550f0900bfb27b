-- What was read is written as it was, and could be written: the bytes of the table that was read are the bytes that reading took.
-- What has been read so far, written again, is the bytes before the place, and each value in it is in range; each good field keeps that.
use Rattle.std.specs.Prelude.{◌≡◌, refl, true, List, [], ◌∷◌, ◌++◌, ℕ, zero, suc, ◌+◌, ◌*◌, ◌≤◌, ◌<◌, length, take, drop, ltb}
use Rattle.std.proofs.Common.{ap, ap₂, sym, subst, ◌∙◌, arith, append_assoc, append-nil, length-append, length-drop, take-add, length-take-le, lt-ltb, le-ltb, eqb-true}
use Rattle.std.proofs.lemmas.Bool.{and_from}
use Rattle.std.proofs.lemmas.Bool.Decides.{nat_tests}
use Rattle.rules.specs.Choice.{pick}
use Rattle.rules.specs.Limits.{max_jobs, max_resources, max_units, max_bytes}
use Rattle.rules.specs.Counting.{within, every}
use Rattle.rules.specs.Table.{Job, Table, job_good, table_refusal}
use Rattle.rules.proofs.Counts.{every_last}
use Rattle.rules.proofs.Tables.{unrefused}
use Rattle.field.specs.Field.{two, pair_at, field, tag_of, length_of}
use Rattle.field.specs.Laws.{Bytes, pair-two, one_back, two_back}
use Rattle.field.proofs.Numbers.{bytes_drop}
use Rattle.field.proofs.Framed.{field_back}
use Rattle.tagged_table.specs.Form.{version, each, resource_bytes, job_bytes, fields_bytes, table_bytes, pairs, job_read, with_units, with_job}
use Rattle.tagged_table.specs.Form.{Sofar, nothing, wants, good, grown, judged, took, table_reading}
use Rattle.tagged_table.proofs.Walk.{judged_framed, judged_good, grown_by}
use Rattle.tagged_table.proofs.Lengths.{job_value}
use Rattle.tagged_table.proofs.Ends.{Stands, at_version, at_size, at_resource, at_job, at_end, is_standing, KeptOn, end_field, read_within}

-- ---- what is read could be written

-- What has been read so far is in range.
pub record InRange (p : Sofar) : Type 0 where
  pub size : 2 ≤ p.last → within 1 max_bytes p.table.size ≡ true
  pub few : length p.table.units ≤ max_resources
  pub units : every (within 1 max_units) p.table.units ≡ true
  pub no_jobs : p.last < 4 → p.table.jobs ≡ []
  pub some : p.last ≡ 4 → 1 ≤ length p.table.jobs
  pub room : length p.table.jobs ≤ max_jobs
  pub jobs : every (job_good p.table.units) p.table.jobs ≡ true

pub nothing_in_range : InRange nothing
unfolding every
nothing_in_range = record {
  size = λ h. absurd (omega arith);
  few = omega arith;
  units = refl;
  no_jobs = λ h. refl;
  some = λ h. absurd (omega arith);
  room = omega arith;
  jobs = refl;
}

module _ (p : Sofar) (v : List ℕ) (k : InRange p) where
  pub grown_in_range : {tag : ℕ} → Stands p tag → good p tag v ≡ true → (tag ≡ 5 → ⊥) → InRange (grown p tag v)
  unfolding good grown every
  grown_in_range (at_version e) g n = record {
    size = λ h. absurd (omega arith);
    few = k.few;
    units = k.units;
    no_jobs = λ h. k.no_jobs (omega arith);
    some = λ h. absurd (omega arith);
    room = k.room;
    jobs = k.jobs;
  }
  grown_in_range (at_size e) g n = record {
    size = λ h. g;
    few = k.few;
    units = k.units;
    no_jobs = λ h. k.no_jobs (omega arith);
    some = λ h. absurd (omega arith);
    room = k.room;
    jobs = k.jobs;
  }
  grown_in_range (at_resource e f m) g n = record {
    size = λ h. k.size e;
    few = simp length-append (omega arith);
    units = every_last _ p.table.units (pair_at v 0) ∙ and_from _ _ k.units g;
    no_jobs = λ h. k.no_jobs (omega arith);
    some = λ h. absurd (omega arith);
    room = k.room;
    jobs = ap (every (job_good (p.table.units ++ pair_at v 0 ∷ []))) (k.no_jobs (omega arith));
  }
  grown_in_range (at_job e m) g n = record {
    size = λ h. k.size e;
    few = k.few;
    units = k.units;
    no_jobs = λ h. absurd (omega arith);
    some = λ h. simp length-append (omega arith);
    room = simp length-append (omega arith);
    jobs = every_last _ p.table.jobs (job_read (length p.table.units) v) ∙ and_from _ _ k.jobs g;
  }
  grown_in_range (at_end e) g n = absurd (n refl)

last_at_end : (p : Sofar) → Stands p 5 → p.last ≡ 4
last_at_end p (at_end e) = e

-- The end field stands behind a job.
behind_job : (p : Sofar) (b : List ℕ) → judged p b ≡ 0 → tag_of b ≡ 5 → p.last ≡ 4
behind_job p b j e = last_at_end p (subst (Stands p) e (is_standing p (tag_of b) (judged_framed p b j).tag))

pub read_good : (s : List ℕ) (n : ℕ) (t : Table) → table_reading s ≡ took n t → table_refusal t ≡ 0
read_good s n t e =
    let f = end_field s (λ p at. InRange p)
    (λ p at k j i. let b = drop at s in grown_in_range p (drop 3 b) k (is_standing p (tag_of b) (judged_framed p b j).tag) (judged_good p b j) i)
    n t nothing_in_range e in
    let k : InRange f.before = f.kept in
    let l : f.before.last ≡ 4 = behind_job f.before (drop f.place s) f.fits f.tag in
    subst (λ (x : Table). table_refusal x ≡ 0) f.table
    (unrefused f.before.table
    (record {
      size = k.size (omega arith);
      few = k.few;
      units = k.units;
      some = grind (arith, nat_tests, k.some l, k.room);
      jobs = k.jobs;
      stack = rw f.table f.stack;
    }))

-- ---- what was read is written as it was

pairs_back : (n : ℕ) (v : List ℕ) → Bytes v → 2 * n ≤ length v → each two (pairs n v) ≡ take (2 * n) v
pairs_back zero v b h = refl
pairs_back (suc n) [] b h = absurd (omega arith)
pairs_back (suc n) (x ∷ []) b h = absurd (omega arith)
pairs_back (suc n) (x ∷ y ∷ v) b h =
    let e : suc (suc (2 * n)) ≡ 2 * suc n = omega arith in
    ap₂ ◌++◌ (pair-two x y (b 1)) (pairs_back n v (bytes_drop 2 (x ∷ y ∷ v) b) (omega arith)) ∙ ap (λ (k : ℕ). take k (x ∷ y ∷ v)) e

job_back : (m : ℕ) (v : List ℕ) → Bytes v → 3 + 2 * m ≤ length v → take (3 + 2 * m) v ≡ job_value (job_read m v)
job_back m [] b h = absurd (omega arith)
job_back m (x ∷ []) b h = absurd (omega arith)
job_back m (x ∷ y ∷ []) b h = absurd (omega arith)
job_back m (x ∷ y ∷ z ∷ v) b h =
    take-add 3 (2 * m) (x ∷ y ∷ z ∷ v)
    ∙ ap₂ (λ (s t : List ℕ). x ∷ s ++ t) (sym (pair-two y z (b 2))) (sym (pairs_back m v (bytes_drop 3 (x ∷ y ∷ z ∷ v) b) (omega arith)))

each-append : {A : Type 0} (f : A → List ℕ) (xs ys : List A) → each f (xs ++ ys) ≡ each f xs ++ each f ys
each-append f [] ys = refl
each-append f (x ∷ xs) ys = simp (each-append f xs ys, append_assoc)

-- One more resource, and one more job, are written last.
resource_more : (t : Table) (u : ℕ) → t.jobs ≡ [] → fields_bytes t ++ resource_bytes u ≡ fields_bytes (with_units t u)
resource_more t u e =
    let of : List Job → Table = λ (js : List Job). record { size = t.size; units = t.units; jobs = js } in
    subst (λ (js : List Job). fields_bytes (of js) ++ resource_bytes u ≡ fields_bytes (with_units (of js) u)) (sym e)
    (simp (append-nil, append_assoc, each-append))

job_more : (t : Table) (j : Job) → fields_bytes t ++ job_bytes j ≡ fields_bytes (with_job t j)
job_more t j = simp (append-nil, append_assoc, each-append)

-- The bytes that what has been read so far is written as.
abbrev bytes_before : Sofar → List ℕ
bytes_before p = pick (ltb p.last 1) [] (pick (ltb p.last 2) (field 1 (version ∷ [])) (fields_bytes p.table))

before_version : (p : Sofar) → p.last ≡ 0 → bytes_before p ≡ []
before_version p h = simp (lt-ltb p.last 1 (omega arith))

before_size : (p : Sofar) → p.last ≡ 1 → bytes_before p ≡ field 1 (version ∷ [])
before_size p h = simp (le-ltb p.last 1 (omega arith), lt-ltb p.last 2 (omega arith))

before_others : (p : Sofar) → 2 ≤ p.last → bytes_before p ≡ fields_bytes p.table
before_others p h = simp (le-ltb p.last 1 (omega arith), le-ltb p.last 2 (omega arith))

-- What has been read so far stood in the bytes a.
record ReadOf (a : List ℕ) (p : Sofar) : Type 0 where
  no_units : p.last < 2 → p.table.units ≡ []
  no_jobs : p.last < 4 → p.table.jobs ≡ []
  bytes : a ≡ bytes_before p

module _ (p : Sofar) (a v : List ℕ) (k : ReadOf a p) (b : Bytes v) where
  grown_of : {tag : ℕ} → Stands p tag → good p tag v ≡ true → wants p tag ≤ length v → (tag ≡ 5 → ⊥)
      → ReadOf (a ++ field tag (take (wants p tag) v)) (grown p tag v)
  unfolding good wants grown
  grown_of (at_version e) g w n = record {
    no_units = λ h. k.no_units (omega arith);
    no_jobs = λ h. k.no_jobs (omega arith);
    bytes = ap₂ (λ (x y : List ℕ). x ++ field 1 y) (k.bytes ∙ before_version p e) (one_back v w ∙ ap (λ (x : ℕ). x ∷ []) (eqb-true _ _ g));
  }
  grown_of (at_size e) g w n = record {
    no_units = λ h. absurd (omega arith);
    no_jobs = λ h. k.no_jobs (omega arith);
    bytes =
        ap₂ (λ (x y : List ℕ). x ++ field 2 y) (k.bytes ∙ before_size p e) (two_back v b w)
        ∙ sym
        (ap₂ (λ (us : List ℕ) (js : List Job). fields_bytes (record { size = pair_at v 0; units = us; jobs = js }))
        (k.no_units (omega arith)) (k.no_jobs (omega arith)));
  }
  grown_of (at_resource e f m) g w n = record {
    no_units = λ h. absurd (omega arith);
    no_jobs = λ h. k.no_jobs (omega arith);
    bytes =
        ap₂ (λ (x y : List ℕ). x ++ field 3 y) (k.bytes ∙ before_others p e) (two_back v b w)
        ∙ resource_more p.table (pair_at v 0) (k.no_jobs (omega arith));
  }
  grown_of (at_job e m) g w n = record {
    no_units = λ h. absurd (omega arith);
    no_jobs = λ h. absurd (omega arith);
    bytes =
        let c = length p.table.units in
        ap₂ (λ (x y : List ℕ). x ++ field 4 y) (k.bytes ∙ before_others p e) (job_back c v b w)
        ∙ job_more p.table (job_read c v);
  }
  grown_of (at_end e) g w n = absurd (n refl)

-- The end field is its three bytes.
end_back : (p : Sofar) (b : List ℕ) → Bytes b → judged p b ≡ 0 → tag_of b ≡ 5 → take 3 b ≡ field 5 []
unfolding wants
end_back p b y j e =
    let f = judged_framed p b j in
    let z : length_of b ≡ 0 = f.len ∙ ap (wants p) e in
    ap (λ (i : ℕ). take (3 + i) b) (sym z)
    ∙ field_back b y f.long f.whole
    ∙ ap₂ (λ (i m : ℕ). field i (take m (drop 3 b))) e z

module _ (s : List ℕ) (y : Bytes s) where
  read_on : KeptOn s (λ p at. ReadOf (take at s) p)
  read_on p at k j n =
      let b = drop at s in
      let f = judged_framed p b j in
      let w : wants p (tag_of b) ≤ length (drop 3 b) = omega (arith, f.len, f.whole, length-drop 3 b) in
      let e : take at s ++ field (tag_of b) (take (wants p (tag_of b)) (drop 3 b)) ≡ take (at + (3 + length_of b)) s =
      ap (λ (i : ℕ). take at s ++ field (tag_of b) (take i (drop 3 b))) (sym f.len)
      ∙ ap (λ (x : List ℕ). take at s ++ x) (sym (field_back b (bytes_drop at s y) f.long f.whole))
      ∙ sym (take-add at (3 + length_of b) s) in
      subst (λ (a : List ℕ). ReadOf a (grown_by p b)) e
      (grown_of p (take at s) (drop 3 b) k (bytes_drop 3 b (bytes_drop at s y)) (is_standing p (tag_of b) f.tag) (judged_good p b j) w n)

  pub write_read : (n : ℕ) (t : Table) → table_reading s ≡ took n t → table_bytes t ≡ take n s
  write_read n t e =
      let f = end_field s (λ p at. ReadOf (take at s) p) read_on n t (record { no_units = λ h. refl; no_jobs = λ h. refl; bytes = refl }) e in
      let b = drop f.place s in
      let l : 2 ≤ f.before.last = omega (arith, behind_job f.before b f.fits f.tag) in
      ap table_bytes (sym f.table)
      ∙ ap₂ ◌++◌ (sym (f.kept.bytes ∙ before_others f.before l)) (sym (end_back f.before b (bytes_drop f.place s y) f.fits f.tag))
      ∙ sym (take-add f.place 3 s)
      ∙ ap (λ (k : ℕ). take k s) f.end

  -- So reading takes as many bytes as the table's.
  pub read_length : (n : ℕ) (t : Table) → table_reading s ≡ took n t → length (table_bytes t) ≡ n
  read_length n t e = ap length (write_read n t e) ∙ length-take-le n s (read_within s n t e)
