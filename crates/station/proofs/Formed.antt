-- The tests of a well-formed state, as walks over its arrays make them. Each walk's test is the rules' test of the list that the arrays hold:
-- a test of all does not depend on the order, and in a test of neighbours each place is tested against the one before it.
use Rattle.std.specs.Prelude.{◌≡◌, refl, Bool, true, false, not, ◌&&◌, List, [], ◌∷◌, ◌++◌, map, reverse, ℕ, suc, ◌+◌, ◌≤◌, ◌<◌, length, get_or, take, drop, ltb, leb}
use Rattle.std.specs.List.{list_all, zip}
use Rattle.std.proofs.Common.{ap, ap₂, sym, ◌∙◌, arith, append_assoc, eq-eqb, ltb-true, le-leb}
use Rattle.std.proofs.lemmas.Bool.{and_parts}
use Rattle.std.proofs.lemmas.Bool.Decides.{nat_tests}
use Rattle.std.proofs.Math.Bool.{and-true}
use Rattle.std.proofs.lemmas.List.{append-nil, at_drop_all, length-map, length-take, drop_more, get_or-map, get_or-take}
use Rattle.rules.specs.Limits.{max_jobs, max_resources, max_level}
use Rattle.rules.specs.Counting.{every, every_below, none_above}
use Rattle.rules.specs.Table as Rules
use Rattle.rules.specs.Table.{job_count, resource_count, no_job, job_of, level_of}
use Rattle.rules.specs.State as R
use Rattle.rules.specs.State.{level_at, running_level, started_jobs, waiting_jobs, held_in}
use Rattle.rules.specs.Waiting.{sooner}
use Rattle.rules.specs.WellFormed.{all_listed, levels_rise, in_order, within_needs, within_units}
use Rattle.rules.proofs.Counts.{every_below_first, every_at, every-append, every-map, reverse-first, every_reverse}
use Rattle.table.specs.declared.Job.{Job}
use Rattle.table.specs.declared.JobNo.{JobNo}
use Rattle.table.specs.declared.Table.{Table}
use Rattle.table.specs.Arrays.{job_in, table_of}
use Rattle.table.specs.Judging.{is_zero}
use Rattle.table.proofs.Fit.{few_jobs_listed}
use Rattle.table.proofs.Tests.{by_all}
use Rattle.station.specs.declared.Started.{Started}
use Rattle.station.specs.declared.State.{State}
use Rattle.station.specs.Arrays.{entry_of, started_in, state_of}
use Rattle.station.specs.WellFormed.{table_fits, held_blank, waiting_blank}
use Rattle.station.proofs.View.{jobs_up, jobs_waiting}
use Rattle.station.proofs.Parts.{tested_fit}

-- ---- entries past a count

-- Of a place of the stack: its array has a place for each resource, and the chain tests those past the count.
pub held_blank_is : (m : ℕ) (f : Started) (r : Bool) → length f.held ≡ max_resources → r ≡ list_all is_zero (drop m f.held) → r ≡ held_blank m f
held_blank_is m f r l e = rw (eq-eqb (length f.held) max_resources l) (by_all is_zero (drop m f.held) r e)

-- Of the waiting jobs: their array has a place for each job, and the chain tests those past the count.
pub waiting_blank_is : (s : State) (r : Bool) → length s.waiting ≡ max_jobs → r ≡ list_all (λ j. is_zero j.0) (drop s.waiting_count s.waiting) → r ≡ waiting_blank s
waiting_blank_is s r l e = rw (eq-eqb (length s.waiting) max_jobs l) (by_all (λ j. is_zero j.0) (drop s.waiting_count s.waiting) r e)

-- ---- a test of each job's number

-- Of the stack: tested place by place, from the lowest up.
every_started : (p : ℕ → Bool) (m : ℕ) (xs : List Started) → every p (started_jobs (reverse (map (started_in m) xs))) ≡ every (λ f. p f.job.0) xs
every_started p m xs = ap (every p) (jobs_up m xs) ∙ every_reverse p (map (λ f. f.job.0) xs) ∙ every-map p (λ f. f.job.0) xs

-- Of the waiting jobs: tested place by place.
every_waiting : (p : ℕ → Bool) (xs : List JobNo) → every p (waiting_jobs (map entry_of xs)) ≡ every (λ j. p j.0) xs
every_waiting p xs = ap (every p) (jobs_waiting xs) ∙ every-map p (λ j. j.0) xs

-- A chain over the started jobs' places ..
pub by_started : (p : ℕ → Bool) (m : ℕ) (xs : List Started) (r : Bool) → r ≡ list_all (λ f. p f.job.0) xs → r ≡ every p (started_jobs (reverse (map (started_in m) xs)))
by_started p m xs r e = by_all (λ f. p f.job.0) xs r e ∙ sym (every_started p m xs)

-- .. and over the waiting jobs'.
pub by_waiting : (p : ℕ → Bool) (xs : List JobNo) (r : Bool) → r ≡ list_all (λ j. p j.0) xs → r ≡ every p (waiting_jobs (map entry_of xs))
by_waiting p xs r e = by_all (λ j. p j.0) xs r e ∙ sym (every_waiting p xs)

-- ---- the jobs of a state are listed

-- Is job j listed?
abbrev is_listed : State → ℕ → Bool
is_listed s j = ltb j (job_count (table_of s.table))

-- All are listed if the started jobs are and the waiting ones are.
pub listed_parts : (s : State)
    → all_listed (table_of s.table) (state_of s) ≡ (every (is_listed s) (started_jobs (state_of s).stack) && every (is_listed s) (waiting_jobs (state_of s).waiting))
listed_parts s = every-append (is_listed s) (started_jobs (state_of s).stack) (waiting_jobs (state_of s).waiting)

module _ (s : State) (h : all_listed (table_of s.table) (state_of s) ≡ true) where
  -- Both parts.
  listed : (every (is_listed s) (started_jobs (state_of s).stack) ≡ true) × (every (is_listed s) (waiting_jobs (state_of s).waiting) ≡ true)
  listed = and_parts _ _ (sym (listed_parts s) ∙ h)

  -- A started job is listed ..
  pub listed_started : (xs : List Started) → xs ≡ take s.depth s.stack → (i : ℕ) (d : Started) → i < length xs
      → (get_or xs i d).job.0 < job_count (table_of s.table)
  listed_started xs e i d l =
      let each : every (λ f. is_listed s f.job.0) xs ≡ true =
      ap (every (λ f. is_listed s f.job.0)) e ∙ sym (every_started (is_listed s) s.table.resource_count (take s.depth s.stack)) ∙ listed.0 in
      ltb-true _ _ (every_at (λ f. is_listed s f.job.0) xs each i d l)

  -- .. and so is a waiting one.
  pub listed_waiting : (xs : List JobNo) → xs ≡ take s.waiting_count s.waiting → (i : ℕ) (d : JobNo) → i < length xs
      → (get_or xs i d).0 < job_count (table_of s.table)
  listed_waiting xs e i d l =
      let each : every (λ j. is_listed s j.0) xs ≡ true =
      ap (every (λ j. is_listed s j.0)) e ∙ sym (every_waiting (is_listed s) (take s.waiting_count s.waiting)) ∙ listed.1 in
      ltb-true _ _ (every_at (λ j. is_listed s j.0) xs each i d l)

module _ (s : State) (fits : table_fits s ≡ true) (h : all_listed (table_of s.table) (state_of s) ≡ true) where
  -- So a started job has a place among all jobs ..
  pub few_started : (xs : List Started) → xs ≡ take s.depth s.stack → (i : ℕ) (d : Started) → i < length xs → (get_or xs i d).job.0 < max_jobs
  few_started xs e i d l = omega (arith, listed_started s h xs e i d l, few_jobs_listed s.table (tested_fit s fits))

  -- .. and so has a waiting one.
  pub few_waiting : (xs : List JobNo) → xs ≡ take s.waiting_count s.waiting → (i : ℕ) (d : JobNo) → i < length xs → (get_or xs i d).0 < max_jobs
  few_waiting xs e i d l = omega (arith, listed_waiting s h xs e i d l, few_jobs_listed s.table (tested_fit s fits))

-- ---- levels rise up the stack

-- Levels rise from n on, up these places.
abbrev pub rises_from : Rules.Table → ℕ → List Started → Bool
rises_from t n [] = true
rises_from t n (f ∷ fs) = ltb n (level_of t f.job.0) && rises_from t (level_of t f.job.0) fs

-- Levels rise up places that stand on a stack if they rise up the stack, and from its top on.
rises_above : (t : Rules.Table) (m : ℕ) (xs : List Started) (fs : List R.Started)
    → levels_rise t (reverse (map (started_in m) xs) ++ fs) ≡ (rises_from t (running_level t fs) xs && levels_rise t fs)
unfolding levels_rise
rises_above t m [] fs = refl
rises_above t m (x ∷ xs) fs =
    ap (λ us. levels_rise t (us ++ fs)) (reverse-first (started_in m x) (map (started_in m) xs))
    ∙ ap (levels_rise t) (append_assoc (reverse (map (started_in m) xs)) (started_in m x ∷ []) fs)
    ∙ rises_above t m xs (started_in m x ∷ fs)
    ∙ both (rises_from t (level_of t x.job.0) xs) (ltb (running_level t fs) (level_of t x.job.0)) (levels_rise t fs)
  where
    both : (a b c : Bool) → (a && (b && c)) ≡ ((b && a) && c)
    both a b c = grind arith

-- The whole stack rises from 0 on.
pub rises_all : (t : Rules.Table) (m : ℕ) (xs : List Started) → rises_from t 0 xs ≡ levels_rise t (reverse (map (started_in m) xs))
unfolding levels_rise
rises_all t m xs =
    sym (and-true (rises_from t 0 xs)) ∙ sym (rises_above t m xs []) ∙ ap (levels_rise t) (append-nil (reverse (map (started_in m) xs)))

-- ---- waiting levels never rise

-- Levels never rise from n on.
abbrev pub falls_from : Rules.Table → ℕ → List R.Entry → Bool
falls_from t n [] = true
falls_from t n (k ∷ ks) = leb (level_at t k) n && falls_from t (level_at t k) ks

-- The level of the first of them.
abbrev pub first_level : Rules.Table → List R.Entry → ℕ
first_level t [] = 0
first_level t (k ∷ ks) = level_at t k

-- Behind k levels fall from k's level on.
falls_behind : (t : Rules.Table) (k : R.Entry) (ks : List R.Entry) → in_order t (k ∷ ks) ≡ falls_from t (level_at t k) ks
unfolding in_order sooner
falls_behind t k [] = refl
falls_behind t k (w ∷ ws) = ap₂ ◌&&◌ (not-ltb (level_at t k) (level_at t w)) (falls_behind t w ws)
  where
    not-ltb : (a b : ℕ) → not (ltb a b) ≡ leb b a
    not-ltb a b = grind (arith, nat_tests)

-- All that wait fall from the greatest level on.
pub falls_all : (t : Rules.Table) (ks : List R.Entry) → first_level t ks ≤ max_level → falls_from t max_level ks ≡ in_order t ks
unfolding in_order
falls_all t [] l = refl
falls_all t (k ∷ ks) l = ap (λ b. b && falls_from t (level_at t k) ks) (le-leb _ _ l) ∙ sym (falls_behind t k ks)

-- ---- no job holds more than its need

-- Does a place's job hold no more than its need?
abbrev pub in_need : Table → Started → Bool
in_need t f = none_above (job_of (table_of t) f.job.0).needs (take t.resource_count f.held)

-- The whole stack, tested place by place.
pub all_in_need : (t : Table) (xs : List Started) → every (in_need t) xs ≡ within_needs (table_of t) (reverse (map (started_in t.resource_count) xs))
all_in_need t xs =
    let test = λ (f : R.Started). none_above (job_of (table_of t) f.entry.who).needs f.held in
    sym (every_reverse test (map (started_in t.resource_count) xs) ∙ every-map test (started_in t.resource_count) xs)

-- The need of a listed job, as the arrays have it.
needs_listed : (t : Table) (j : ℕ) (d : Job) → j < job_count (table_of t) → (job_of (table_of t) j).needs ≡ take t.resource_count (get_or t.jobs j d).needs
needs_listed t j d l =
    let n : length (map (job_in t.resource_count) (take t.job_count t.jobs)) ≡ length (take t.job_count t.jobs) =
    length-map (take t.job_count t.jobs) (job_in t.resource_count) in
    let inside : j < length (take t.job_count t.jobs) = rw n at l in
    let few : j < t.job_count = omega (arith, inside, length-take t.job_count t.jobs) in
    ap (λ k. k.needs) (get_or-map (job_in t.resource_count) (take t.job_count t.jobs) j d no_job inside)
    ∙ ap (λ k. take t.resource_count k.needs) (get_or-take t.job_count t.jobs j d few)

-- A place that passes leaves the others to decide; one that does not decides.
module _ (t : Table) (xs : List Started) (i : ℕ) (d : Started) (e : Job) (r : Bool) (l : i < length xs) (k : (get_or xs i d).job.0 < job_count (table_of t))
    (test : r ≡ none_above (take t.resource_count (get_or t.jobs (get_or xs i d).job.0 e).needs) (take t.resource_count (get_or xs i d).held))
    (whole : Bool) (h : every (in_need t) (drop i xs) ≡ whole) where
  -- This place, and those left.
  here : (r && every (in_need t) (drop (i + 1) xs)) ≡ whole
  unfolding every
  here =
      let f = get_or xs i d in
      let passes : r ≡ in_need t f = test ∙ ap (λ ns. none_above ns (take t.resource_count f.held)) (sym (needs_listed t f.job.0 e k)) in
      ap (λ b. b && every (in_need t) (drop (i + 1) xs)) passes ∙ ap (every (in_need t)) (sym (drop_more xs i d l)) ∙ h

  -- If it passes, the places left decide ..
  pub in_need_more : r ≡ true → every (in_need t) (drop (i + 1) xs) ≡ whole
  in_need_more p = ap (λ b. b && every (in_need t) (drop (i + 1) xs)) (sym p) ∙ here

  -- .. and if not, it does.
  pub in_need_ends : r ≡ false → false ≡ whole
  in_need_ends p = ap (λ b. b && every (in_need t) (drop (i + 1) xs)) (sym p) ∙ here

-- With no place left, all have passed.
pub none_left : {A : Type 0} (p : A → Bool) (xs : List A) (i : ℕ) (whole : Bool) → length xs ≤ i → every p (drop i xs) ≡ whole → true ≡ whole
unfolding every
none_left p xs i whole l h = sym (at_drop_all (every p) xs i l) ∙ h

-- ---- no more units are held than there are

-- As many as there are resources, each with what is held of it.
zip_below : (us held : List ℕ) (f : ℕ → ℕ) → length us ≤ length held → ((r : ℕ) → r < length us → get_or held r 0 ≡ f r)
    → list_all (λ p. leb p.0 p.1) (zip held us) ≡ every_below (length us) (λ r. leb (f r) (get_or us r 0))
unfolding every_below
zip_below [] [] f l h = refl
zip_below [] (x ∷ held) f l h = refl
zip_below (u ∷ us) [] f l h = absurd (let no : ⊥ = omega arith in no)
zip_below (u ∷ us) (x ∷ held) f l h =
    ap₂ ◌&&◌ (ap (λ k. leb k u) (h 0 (omega arith))) (zip_below us held (λ r. f (suc r)) (omega arith) (λ r b. h (suc r) (omega arith)))
    ∙ sym (every_below_first (length us) (λ r. leb (f r) (get_or (u ∷ us) r 0)))

-- A chain over the resources.
pub by_units : (t : Rules.Table) (fs : List R.Started) (held : List ℕ) (r : Bool) → resource_count t ≤ length held
    → ((r : ℕ) → r < resource_count t → get_or held r 0 ≡ held_in fs r) → r ≡ list_all (λ p. leb p.0 p.1) (zip held t.units) → r ≡ within_units t fs
by_units t fs held r l h e = e ∙ zip_below t.units held (held_in fs) l h
