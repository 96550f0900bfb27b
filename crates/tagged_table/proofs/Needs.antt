-- A job's needs, read one by one into its array: the need at a place is a number in two bytes of the value, one more need is one more place
-- of the array, and the needs that are left are within the units or not as their first is.
use Rattle.std.specs.Prelude.{◌≡◌, refl, true, false, ◌&&◌, List, ℕ, zero, suc, ◌+◌, ◌*◌, ◌≤◌, ◌<◌, length, get_or, set, take, drop, leb, Ok, Err}
use Rattle.std.proofs.Common.{sym, ap, ap₂, ◌∙◌, arith, drop_of_length-le}
use Rattle.std.proofs.lemmas.Bool.Decides.{nat_tests}
use Rattle.std.proofs.lemmas.List.{take_more, drop_more}
use Rattle.std.proofs.Math.Seq.{length-take-le}
use Rattle.rules.specs.Limits.{max_resources, max_level, max_bytes}
use Rattle.rules.specs.Counting.{none_above}
use Rattle.rules.specs.Table.{job_good}
use Rattle.table.specs.Arrays.{padded}
use Rattle.table.specs.declared.Level.{Level}
use Rattle.table.specs.declared.Job.{Job}
use Rattle.table.specs.declared.Refusal.TheVariants.{ValueOutOfRange}
use Rattle.table.proofs.Padded.{padded_put}
use Rattle.field.specs.Field.{pair_at}
use Rattle.field.proofs.Numbers.{pair-drop}
use Rattle.tagged_table.specs.Form.{pairs, job_read}
use Rattle.tagged_table.specs.Parts.{job_answer}

-- ---- the needs in a value

pub length-pairs : (n : ℕ) (v : List ℕ) → length (pairs n v) ≡ n
length-pairs zero v = refl
length-pairs (suc n) v = ap suc (length-pairs n (drop 2 v))

pair_of : (n : ℕ) (v : List ℕ) (r : ℕ) → r < n → get_or (pairs n v) r 0 ≡ pair_at v (2 * r)
pair_of zero v r h = absurd (let f : ⊥ = omega arith in f)
pair_of (suc n) v zero h = refl
pair_of (suc n) v (suc r) h =
    let e : 2 + 2 * r ≡ 2 * suc r = omega arith in
    pair_of n (drop 2 v) r (omega arith) ∙ pair-drop 2 v (2 * r) ∙ ap (pair_at v) e

need_at : (v : List ℕ) (m r : ℕ) → r < m → get_or (pairs m (drop 3 v)) r 0 ≡ pair_at v (3 + 2 * r)
need_at v m r h = pair_of m (drop 3 v) r h ∙ pair-drop 3 v (2 * r)

-- ---- the needs within the units

above : (us ns : List ℕ) (r : ℕ) → r < length us → r < length ns
    → none_above (drop r us) (drop r ns) ≡ (leb (get_or ns r 0) (get_or us r 0) && none_above (drop (r + 1) us) (drop (r + 1) ns))
unfolding none_above
above us ns r h k = rw (drop_more us r 0 h, drop_more ns r 0 k) refl

pub one_above : (us ns : List ℕ) (r : ℕ) → r < length us → r < length ns → get_or us r 0 < get_or ns r 0 → none_above (drop r us) (drop r ns) ≡ false
one_above us ns r h k l = rw (above us ns r h k) (grind (arith, nat_tests))

pub one_within : (us ns : List ℕ) (r : ℕ) → r < length us → r < length ns → get_or ns r 0 ≤ get_or us r 0
    → none_above (drop r us) (drop r ns) ≡ none_above (drop (r + 1) us) (drop (r + 1) ns)
one_within us ns r h k l = rw (above us ns r h k) (grind (arith, nat_tests))

pub none_left : (us ns : List ℕ) (r : ℕ) → length us ≤ r → length ns ≤ r → none_above (drop r us) (drop r ns) ≡ true
unfolding none_above
none_left us ns r h k = rw (drop_of_length-le us h, drop_of_length-le ns k) refl

-- ---- the whole job

needs_decide : (units v : List ℕ) (l f : ℕ) → l ≡ get_or v 0 0 → f ≡ pair_at v 1 → 0 < l → l ≤ max_level → 0 < f → f ≤ max_bytes
    → job_good units (job_read (length units) v) ≡ none_above units (pairs (length units) (drop 3 v))
needs_decide units v l f p q a b c d = grind (arith, nat_tests)

-- ---- as the code reads it

pub need_read : (s : List ℕ) (a m r k : ℕ) → r < m → k ≡ pair_at s (a + (3 + 2 * r)) → k ≡ get_or (pairs m (drop 3 (drop a s))) r 0
need_read s a m r k h e = e ∙ sym (pair-drop a s (3 + 2 * r)) ∙ sym (need_at (drop a s) m r h)

pub need_put : (ns held : List ℕ) (r k : ℕ) → r < length ns → length ns ≤ max_resources → held ≡ padded 0 max_resources (take r ns) → k ≡ get_or ns r 0
    → set held r k ≡ padded 0 max_resources (take (r + 1) ns)
need_put ns held r k h few e q =
    let l : length (take r ns) ≡ r = length-take-le r ns (omega arith) in
    ap₂ (λ (xs : List ℕ) (x : ℕ). set xs r x) e q
    ∙ ap (λ (i : ℕ). set (padded 0 max_resources (take r ns)) i (get_or ns r 0)) (sym l)
    ∙ padded_put 0 max_resources (take r ns) (get_or ns r 0) (omega arith)
    ∙ ap (padded 0 max_resources) (sym (take_more ns r 0 h))

module _ (units v : List ℕ) (place l f : ℕ) (p : l ≡ get_or v 0 0) (q : f ≡ pair_at v 1) (a : 0 < l) (b : l ≤ max_level) (c : 0 < f) (d : f ≤ max_bytes) where
  abbrev needs : List ℕ
  needs = pairs (length units) (drop 3 v)

  pub job_in_range : none_above units needs ≡ true → (job : Job) → job.level ≡ record { 0 = l } → job.frame ≡ f → job.needs ≡ padded 0 max_resources needs
      → Ok job ≡ job_answer units v place
  job_in_range h job x y z =
      rw (needs_decide units v l f p q a b c d ∙ h)
      (ap (λ (k : Level). Ok (record { level = k; frame = job.frame; needs = job.needs })) (x ∙ ap (λ (k : ℕ). record { 0 = k }) p)
      ∙ ap (λ (k : ℕ). Ok (record { level = record { 0 = get_or v 0 0 }; frame = k; needs = job.needs })) (y ∙ q)
      ∙ ap (λ (k : List ℕ). Ok (record { level = record { 0 = get_or v 0 0 }; frame = pair_at v 1; needs = k })) z)

  pub need_out_of_range : none_above units needs ≡ false → Err (record { refusal = ValueOutOfRange; place = place }) ≡ job_answer units v place
  need_out_of_range h = rw (needs_decide units v l f p q a b c d ∙ h) refl
