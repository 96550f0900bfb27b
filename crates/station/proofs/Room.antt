-- The started and the waiting jobs are listed, each once, so they are no more than the jobs, and fewer than there is room for where a listed
-- job is not among them.
use Rattle.std.specs.Prelude.{◌≡◌, true, false, not, List, [], ◌∷◌, ℕ, ◌+◌, ◌≤◌, ◌<◌, length, ltb, eqb}
use Rattle.std.specs.List.{list_any, IsDistinct, AllByRecursion}
use Rattle.std.proofs.Common.{ap, ap₂, sym, subst, ◌∙◌, arith, ⊎_elim, eqb-true, ltb-true, lt-ltb}
use Rattle.std.proofs.lemmas.Bool.{and_parts, and_from, false≢true, or_cases, or_parts}
use Rattle.std.proofs.lemmas.List.{length-map, length-append}
use Rattle.std.proofs.lemmas.Map.Steps.{length-le_from_distinct_below}
use Rattle.rules.specs.Limits.{max_jobs}
use Rattle.rules.specs.Counting.{every, contains, each_once}
use Rattle.rules.specs.Table as T
use Rattle.rules.specs.Table.{job_count}
use Rattle.rules.specs.State as R
use Rattle.rules.specs.State.{started_jobs, waiting_jobs, active_jobs}
use Rattle.rules.specs.WellFormed.{well_kept}
use Rattle.rules.proofs.Counts.{eqb_flip, once_first}
use Rattle.table.specs.Arrays.{table_of}
use Rattle.table.proofs.Fit.{few_jobs_listed}
use Rattle.station.specs.declared.State.{State}
use Rattle.station.specs.Arrays.{state_of}
use Rattle.station.specs.WellFormed.{well_formed}
use Rattle.station.proofs.View.{started_map, waiting_map}
use Rattle.station.proofs.Parts.{formed, table_fit}
use Rattle.station.proofs.Back.{stack_length, waiting_length}

-- Numbers below n, each once, are at most n.
once_few : (n : ℕ) (xs : List ℕ) → each_once xs ≡ true → every (λ j. ltb j n) xs ≡ true → length xs ≤ n
unfolding contains every IsDistinct
once_few n xs o h = length-le_from_distinct_below xs n (distinct xs o) (below xs h)
  where
    apart : (x : ℕ) (ys : List ℕ) → contains x ys ≡ false → AllByRecursion (λ y. eqb x y ≡ false) ys
    apart x [] h = tt
    apart x (y ∷ ys) h =
        let p = or_parts (eqb y x) (contains x ys) h in
        (eqb_flip x y ∙ p.0, apart x ys p.1)

    distinct : (ys : List ℕ) → each_once ys ≡ true → IsDistinct eqb ys
    distinct [] h = tt
    distinct (y ∷ ys) h = let p = once_first y ys h in (apart y ys p.0, distinct ys p.1)

    below : (ys : List ℕ) → every (λ j. ltb j n) ys ≡ true → (q : ℕ) → list_any (eqb q) ys ≡ true → q < n
    below [] h q e = absurd (false≢true e)
    below (y ∷ ys) h q e =
        let p = and_parts (ltb y n) (every (λ j. ltb j n) ys) h in
        ⊎_elim
        (λ f. subst (λ k. k < n) (sym (eqb-true q y f)) (ltb-true y n p.0))
        (λ f. below ys p.1 q f)
        (or_cases (eqb q y) (list_any (eqb q) ys) e)

-- As many are active as are started and wait.
active_length : (s : R.State) → length (active_jobs s) ≡ length s.stack + length s.waiting
active_length s =
    length-append (started_jobs s.stack) (waiting_jobs s.waiting)
    ∙ ap₂ ◌+◌
    (ap length (started_map s.stack) ∙ length-map s.stack (λ (f : R.Started). f.entry.who))
    (ap length (waiting_map s.waiting) ∙ length-map s.waiting (λ (k : R.Entry). k.who))

-- The tests of the jobs that a well-formed state has passed.
pub kept_active : (t : T.Table) (s : R.State) → well_kept t s ≡ true → (every (λ j. ltb j (job_count t)) (active_jobs s) ≡ true) × (each_once (active_jobs s) ≡ true)
kept_active t s h = (grind arith, grind arith)

-- The started and the waiting jobs are no more than the listed ones ..
pub active_few : (t : T.Table) (s : R.State) → well_kept t s ≡ true → length s.stack + length s.waiting ≤ job_count t
active_few t s h =
    let p = kept_active t s h in
    rw (← active_length s) (once_few (job_count t) (active_jobs s) p.1 p.0)

-- .. and fewer, if a listed job is not among them.
active_fewer : (t : T.Table) (s : R.State) (j : ℕ) → well_kept t s ≡ true → j < job_count t → contains j (active_jobs s) ≡ false
    → length s.stack + length s.waiting < job_count t
unfolding every each_once
active_fewer t s j h l n =
    let p = kept_active t s h in
    let more : length (j ∷ active_jobs s) ≤ job_count t =
    once_few (job_count t) (j ∷ active_jobs s) (and_from _ _ (ap not n) p.1) (and_from _ _ (lt-ltb j (job_count t) l) p.0) in
    omega (arith, active_length s)

-- What a well-formed state leaves room for.
pub record Room (s : State) : Type 0 where
  pub jobs : job_count (table_of s.table) ≤ max_jobs
  pub active : s.depth + s.waiting_count ≤ job_count (table_of s.table)

-- A well-formed state leaves so much.
pub room : (s : State) → well_formed s ≡ true → Room s
room s h =
    let f = formed s h in
    record {
      jobs = few_jobs_listed s.table (table_fit s h);
      active = omega (
        arith,
        active_few (table_of s.table) (state_of s) f.kept,
        stack_length s f.padding,
        waiting_length s f.padding,
      );
    }

-- A listed job that is neither started nor waiting finds room.
pub room_for : (s : State) (j : ℕ) → well_formed s ≡ true → j < job_count (table_of s.table) → contains j (active_jobs (state_of s)) ≡ false
    → s.depth + s.waiting_count < max_jobs
room_for s j h l n =
    let f = formed s h in
    omega (
      arith,
      (room s h).jobs,
      active_fewer (table_of s.table) (state_of s) j f.kept l n,
      stack_length s f.padding,
      waiting_length s f.padding,
    )
