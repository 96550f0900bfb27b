-- The worst stack from one pass over the jobs: the largest frame so far at each level, and the sum of these.
-- One more job changes its own level's entry alone, and the sum of a list is the sum of its entries.
use Rattle.std.specs.Prelude.{◌≡◌, refl, List, ℕ, zero, suc, ◌+◌, max, ◌≤◌, ◌<◌, length, get_or, set, take, replicate, eqb}
use Rattle.std.specs.List.{sum}
use Rattle.std.specs.Ordering.{ord_max, nat_cmp}
use Rattle.std.proofs.Common.{ap, sym, ◌∙◌, arith, add-one, le_refl}
use Rattle.std.proofs.Math.Seq.{take-length}
use Rattle.std.proofs.lemmas.Bool.{cases_eq}
use Rattle.std.proofs.lemmas.Bool.Decides.{nat_tests}
use Rattle.std.proofs.lemmas.List.{length-set, length-replicate, get_or-set_same, get_or-set_other, get_or-replicate, length-map, get_or-map}
use Rattle.std.proofs.lemmas.List.Sums.{sum_by_more}
use Rattle.rules.specs.Choice.{pick}
use Rattle.rules.specs.Counting.{max_below, sum_below}
use Rattle.rules.specs.Limits.{max_level}
use Rattle.rules.specs.Table as R
use Rattle.rules.specs.Table.{no_job, level_of, room_of, largest_at, worst}
use Rattle.rules.proofs.Counts.{max_below_same, sum_below_same}
use Rattle.table.specs.declared.Job.{Job}
use Rattle.table.specs.declared.Table.{Table}
use Rattle.table.specs.Arrays.{absent_job, job_in, table_of}

-- ---- the largest frame at a level

-- A job's frame, if its level is l.
abbrev pub frame_at : ℕ → Job → ℕ
frame_at l j = pick (eqb j.level.0 l) j.frame 0

-- The largest frame at level l of the first k jobs.
abbrev pub largest_of : List Job → ℕ → ℕ → ℕ
largest_of js k l = max_below k (λ i. frame_at l (get_or js i absent_job))

-- Of all listed jobs it is the table's.
largest_listed : (t : Table) (l : ℕ) → largest_of (take t.job_count t.jobs) (length (take t.job_count t.jobs)) l ≡ largest_at (table_of t) l
largest_listed t l =
    let js = take t.job_count t.jobs in
    max_below_same (length js) (λ i. frame_at l (get_or js i absent_job)) _
    (λ i b. ap (λ (j : R.Job). pick (eqb j.level l) j.frame 0) (sym (get_or-map (job_in t.resource_count) js i absent_job no_job b)))
    ∙ ap (λ n. max_below n (λ j. pick (eqb (level_of (table_of t) j) l) (room_of (table_of t) j) 0)) (sym (length-map js (job_in t.resource_count)))

-- ---- the entries, one for each level

-- Each entry is the largest frame at its level of the first k jobs.
pub record Largest (js : List Job) (k : ℕ) (xs : List ℕ) : Type 0 where
  pub all_levels : length xs ≡ suc max_level
  pub largest : (l : ℕ) → l ≤ max_level → get_or xs l 0 ≡ largest_of js k l

-- Of no job it is 0, as in an array of zeros.
pub largest_none : (js : List Job) → Largest js 0 (replicate (suc max_level) 0)
unfolding max_below
largest_none js = record { all_levels = length-replicate {A = ℕ} (suc max_level) 0; largest = λ l b. get_or-replicate (suc max_level) l 0 0 (omega arith) }

larger : (a b : ℕ) → ord_max nat_cmp a b ≡ max a b
larger a b = grind arith

-- The larger of an entry and a frame, in the entry's place.
raised : (xs : List ℕ) (at frame l : ℕ) → at < length xs → get_or (set xs at (max (get_or xs at 0) frame)) l 0 ≡ max (get_or xs l 0) (pick (eqb at l) frame 0)
raised xs at frame l h = grind (arith, nat_tests, cases_eq l at, get_or-set_same, get_or-set_other)

-- One more job.
pub largest_more : (js : List Job) (xs : List ℕ) (k x : ℕ) → Largest js k xs → (get_or js k absent_job).level.0 ≤ max_level
    → x ≡ ord_max nat_cmp (get_or xs (get_or js k absent_job).level.0 0) (get_or js k absent_job).frame → Largest js (k + 1) (set xs (get_or js k absent_job).level.0 x)
unfolding max_below
largest_more js xs k x h c e =
    let j = get_or js k absent_job in
    let within : j.level.0 < length xs = omega (arith, h.all_levels) in
    record {
      all_levels = length-set xs j.level.0 x ∙ h.all_levels;
      largest = λ l b. rw (e, add-one, larger) (raised xs j.level.0 j.frame l within ∙ ap (λ m. max m (frame_at l j)) (h.largest l b));
    }

-- All listed jobs.
pub largest_all : (t : Table) (js : List Job) (k : ℕ) (xs : List ℕ) → js ≡ take t.job_count t.jobs → length js ≤ k → k ≤ length js → Largest js k xs
    → (l : ℕ) → l ≤ max_level → get_or xs l 0 ≡ largest_at (table_of t) l
largest_all t js k xs e above below h l b =
    let all : k ≡ length js = omega arith in
    h.largest l b ∙ ap (λ n. largest_of js n l) all ∙ ap (λ (ys : List Job). largest_of ys (length ys) l) e ∙ largest_listed t l

-- ---- the sum

-- A list's sum, entry by entry.
sum_to : (xs : List ℕ) (n : ℕ) → n ≤ length xs → sum (take n xs) ≡ sum_below n (λ i. get_or xs i 0)
unfolding sum_below
sum_to xs zero l = refl
sum_to xs (suc n) l = rw (← add-one) (sum_by_more (λ x. x) xs n 0 l ∙ ap (λ s. s + get_or xs n 0) (sum_to xs n (omega arith)))

sum_is : (xs : List ℕ) (f : ℕ → ℕ) → ((i : ℕ) → i < length xs → get_or xs i 0 ≡ f i) → sum xs ≡ sum_below (length xs) f
sum_is xs f h = sym (ap sum (take-length xs)) ∙ sum_to xs (length xs) (le_refl (length xs)) ∙ sum_below_same (length xs) _ f h

-- The sum of the entries is the worst stack.
pub entries_worst : (t : Table) (xs : List ℕ) → length xs ≡ suc max_level → ((l : ℕ) → l ≤ max_level → get_or xs l 0 ≡ largest_at (table_of t) l) → sum xs ≡ worst (table_of t)
unfolding worst
entries_worst t xs n h = sum_is xs (largest_at (table_of t)) (λ i b. h i (omega arith)) ∙ ap (λ k. sum_below k (largest_at (table_of t))) n
