-- The ceilings, as one pass over the jobs finds them: the largest level so far among the jobs with a need above what is free.
-- One job more is the larger of two, and the largest over the resources of the largest over the jobs is the largest over the jobs alone.
use Rattle.std.specs.Prelude.{◌≡◌, refl, Bool, true, false, not, ◌&&◌, ◌||◌, List, [], ◌∷◌, ℕ, zero, suc, ◌+◌, max, ◌≤◌, ◌<◌, length, get_or, take, leb, ltb}
use Rattle.std.specs.List.{list_any, zip}
use Rattle.std.specs.Ordering.{is_gt, nat_cmp}
use Rattle.std.proofs.Common.{ap, ap₂, sym, ◌∙◌, add-one, arith, get_or-take}
use Rattle.std.proofs.lemmas.Bool.{false≢true}
use Rattle.std.proofs.lemmas.Bool.Decides.{nat_tests}
use Rattle.std.proofs.lemmas.Map.Keys.{le_from_not_gt}
use Rattle.std.proofs.lemmas.List.{length-map, get_or-map}
use Rattle.rules.specs.Choice.{pick}
use Rattle.rules.specs.Counting.{max_below, every_below}
use Rattle.rules.specs.Table as R
use Rattle.rules.specs.Table.{no_job, job_count, resource_count, job_of, need_of, level_of}
use Rattle.rules.specs.State.{Started, free_in, running_level}
use Rattle.rules.specs.Ceilings.{ceiling, resource_ceiling, system_ceiling}
use Rattle.rules.proofs.Counts.{max_below_same, every_below_same, every_below_first, every_below_make}
use Rattle.table.specs.declared.Job.{Job}
use Rattle.table.specs.declared.Table.{Table}
use Rattle.table.specs.Arrays.{absent_job, job_in, table_of}
use Rattle.station.proofs.Units.{listed_resource}

-- ---- laws of the largest

-- The larger of two largest is the largest of the larger ones.
max_below_max : (n : ℕ) (f g : ℕ → ℕ) → max (max_below n f) (max_below n g) ≡ max_below n (λ i. max (f i) (g i))
unfolding max_below
max_below_max zero f g = refl
max_below_max (suc n) f g = omega (arith, max_below_max n f g)

-- The largest of none but zeros.
max_below_zero : (n : ℕ) → 0 ≡ max_below n (λ i. 0)
unfolding max_below
max_below_zero zero = refl
max_below_zero (suc n) = omega (arith, max_below_zero n)

-- A need is not above what is free.
not_above : (v need : ℕ) → leb need v ≡ not (ltb v need)
not_above v need = grind (arith, nat_tests)

-- An amount that counts for the one or for the other.
either_pick : (p b : Bool) (x : ℕ) → max (pick (not p) x 0) (pick b x 0) ≡ pick (not (p && not b)) x 0
either_pick true true x = omega arith
either_pick true false x = omega arith
either_pick false true x = omega arith
either_pick false false x = omega arith

-- The largest over n rows of the largest over k columns: a column's amount counts where some row has it.
exchange : (n k : ℕ) (b : ℕ → ℕ → Bool) (x : ℕ → ℕ)
    → max_below n (λ r. max_below k (λ j. pick (b r j) (x j) 0)) ≡ max_below k (λ j. pick (not (every_below n (λ r. not (b r j)))) (x j) 0)
unfolding max_below every_below
exchange zero k b x = max_below_zero k
exchange (suc n) k b x =
    ap (λ m. max m (max_below k (λ j. pick (b n j) (x j) 0))) (exchange n k b x)
    ∙ max_below_max k (λ j. pick (not (every_below n (λ r. not (b r j)))) (x j) 0) (λ j. pick (b n j) (x j) 0)
    ∙ max_below_same k _ _ (λ j l. either_pick (every_below n (λ r. not (b r j))) (b n j) (x j))

-- ---- what the comparison of two levels says

-- Above ..
pub higher : (x m : ℕ) (r : Bool) → r ≡ is_gt (nat_cmp x m) → r ≡ true → m < x
higher x m r e h = grind (arith, e, h)

-- .. or not.
pub no_higher : (x m : ℕ) (r : Bool) → r ≡ is_gt (nat_cmp x m) → r ≡ false → x ≤ m
no_higher x m r e h = le_from_not_gt x m (sym e ∙ h)

-- ---- one more in the pass, above a level that it begins with

-- One more may raise what was found.
more : (k low : ℕ) (f : ℕ → ℕ) → max (max_below (k + 1) f) low ≡ max (max (max_below k f) low) (f k)
unfolding max_below
more k low f = rw (add-one k) (omega arith)

-- It is taken where it is above what was found.
pub taken : (k low m x : ℕ) (b : Bool) (f : ℕ → ℕ) → m ≡ max (max_below k f) low → f k ≡ pick b x 0 → m < x → b ≡ true → x ≡ max (max_below (k + 1) f) low
taken k low m x true f e q l h = omega (arith, more k low f)
taken k low m x false f e q l h = absurd (false≢true h)

-- It is passed where it does not count ..
pub uncounted : (k low m x : ℕ) (b : Bool) (f : ℕ → ℕ) → m ≡ max (max_below k f) low → f k ≡ pick b x 0 → b ≡ false → m ≡ max (max_below (k + 1) f) low
uncounted k low m x true f e q h = absurd (false≢true (sym h))
uncounted k low m x false f e q h = omega (arith, more k low f)

-- .. and where it is no larger.
pub no_larger : (k low m x : ℕ) (b : Bool) (f : ℕ → ℕ) → m ≡ max (max_below k f) low → f k ≡ pick b x 0 → x ≤ m → m ≡ max (max_below (k + 1) f) low
no_larger k low m x true f e q l = omega (arith, more k low f)
no_larger k low m x false f e q l = omega (arith, more k low f)

-- Before the first it is what the pass began with.
pub none_passed : (low : ℕ) (f : ℕ → ℕ) → low ≡ max (max_below 0 f) low
unfolding max_below
none_passed low f = omega arith

-- ---- of one resource

-- A job's level, if its need of resource r is above v.
abbrev pub level_above : ℕ → ℕ → Job → ℕ
level_above r v j = pick (ltb v (get_or j.needs r 0)) j.level.0 0

-- Of the jobs in their order.
abbrev pub levels_above : ℕ → ℕ → List Job → ℕ → ℕ
levels_above r v js i = level_above r v (get_or js i absent_job)

-- ---- some need above what is free: as the chain tests the pairs

-- One pair, then the others.
above_or : (x y : ℕ) (b : Bool) → (ltb y x || not b) ≡ not (leb x y && b)
above_or x y b = grind (arith, nat_tests)

-- The lists have one length, and past it neither has an entry.
pub any_above : (n : ℕ) (needs free : List ℕ) → length needs ≡ length free
    → list_any (λ p. ltb p.1 p.0) (take n (zip needs free)) ≡ not (every_below n (λ r. leb (get_or needs r 0) (get_or free r 0)))
unfolding every_below
any_above zero needs free e = refl
any_above (suc n) [] [] e = ap not (sym (every_below_make (suc n) _ (λ r l. refl)))
any_above (suc n) [] (y ∷ ys) e = absurd (let f : ⊥ = omega arith in f)
any_above (suc n) (x ∷ xs) [] e = absurd (let f : ⊥ = omega arith in f)
any_above (suc n) (x ∷ xs) (y ∷ ys) e =
    ap (λ b. ltb y x || b) (any_above n xs ys (omega arith))
    ∙ above_or x y (every_below n (λ r. leb (get_or xs r 0) (get_or ys r 0)))
    ∙ ap not (sym (every_below_first n (λ r. leb (get_or (x ∷ xs) r 0) (get_or (y ∷ ys) r 0))))

-- ---- of all resources

-- Is a job's need of one of the first n resources above what is free of it?
abbrev pub needs_more : List ℕ → ℕ → Job → Bool
needs_more free n j = not (every_below n (λ r. leb (get_or j.needs r 0) (get_or free r 0)))

-- Its level, if so; of the jobs in their order.
abbrev pub levels_needing : List ℕ → ℕ → List Job → ℕ → ℕ
levels_needing free n js i = pick (needs_more free n (get_or js i absent_job)) (get_or js i absent_job).level.0 0

-- ---- of all listed jobs

module _ (t : Table) where
  abbrev pub listed : List Job
  listed = take t.job_count t.jobs

  -- The table's job j is the one at place j.
  at : (j : ℕ) → j < length listed → job_of (table_of t) j ≡ job_in t.resource_count (get_or listed j absent_job)
  at j l = get_or-map (job_in t.resource_count) listed j absent_job no_job l

  -- Its need of a listed resource.
  needs : (j r : ℕ) → j < length listed → r < resource_count (table_of t) → need_of (table_of t) j r ≡ get_or (get_or listed j absent_job).needs r 0
  needs j r l b =
      ap (λ (x : R.Job). get_or x.needs r 0) (at j l)
      ∙ get_or-take t.resource_count (get_or listed j absent_job).needs r 0 (listed_resource t.resource_count r t.units b)

  -- The largest level above v of all listed jobs is the ceiling.
  ceiling_listed : (r v : ℕ) → r < resource_count (table_of t) → max_below (length listed) (levels_above r v listed) ≡ ceiling (table_of t) r v
  unfolding ceiling
  ceiling_listed r v b =
      max_below_same (length listed) _ _
      (λ j l. ap₂ (λ need level. pick (ltb v need) level 0) (sym (needs j r l b)) (sym (ap (λ (x : R.Job). x.level) (at j l))))
      ∙ ap (λ n. max_below n (λ j. pick (ltb v (need_of (table_of t) j r)) (level_of (table_of t) j) 0)) (sym (length-map listed (job_in t.resource_count)))

  -- A pass over all listed jobs finds the ceiling of the resource.
  pub ceiling_all : (r v k m : ℕ) (js : List Job) → r < resource_count (table_of t) → js ≡ listed → k ≡ length js
      → m ≡ max (max_below k (levels_above r v js)) 0 → m ≡ ceiling (table_of t) r v
  ceiling_all r v k m js b e q h =
      h ∙ rw (q, e) (omega (arith, ceiling_listed r v b))

  module _ (fs : List Started) (free : List ℕ) (is_free : (r : ℕ) → r < resource_count (table_of t) → get_or free r 0 ≡ free_in (table_of t) fs r) where
    -- Is the need of job j of resource r above what is free?
    above : (r : ℕ) → ℕ → Bool
    above r j = ltb (free_in (table_of t) fs r) (need_of (table_of t) j r)

    -- Is some need of job j above what is free?
    above_is : (j : ℕ) → j < length listed
        → needs_more free (resource_count (table_of t)) (get_or listed j absent_job) ≡ not (every_below (resource_count (table_of t)) (λ r. not (above r j)))
    unfolding above
    above_is j l =
        ap not
        (every_below_same (resource_count (table_of t)) _ _
        (λ r b. ap₂ leb (sym (needs j r l b)) (is_free r b) ∙ not_above (free_in (table_of t) fs r) (need_of (table_of t) j r)))

    -- The largest level of all listed jobs with such a need is the largest of the ceilings.
    needing_listed : max_below (length listed) (levels_needing free (resource_count (table_of t)) listed) ≡ resource_ceiling (table_of t) fs
    unfolding resource_ceiling ceiling above
    needing_listed =
        max_below_same (length listed) _ _
        (λ j l. ap₂ (λ b level. pick b level 0) (above_is j l) (sym (ap (λ (x : R.Job). x.level) (at j l))))
        ∙ ap (λ n. max_below n (λ j. pick (not (every_below (resource_count (table_of t)) (λ r. not (above r j)))) (level_of (table_of t) j) 0))
        (sym (length-map listed (job_in t.resource_count)))
        ∙ sym (exchange (resource_count (table_of t)) (job_count (table_of t)) above (level_of (table_of t)))

    -- A pass over all listed jobs, above the running level, finds the system ceiling.
    pub system_all : (k m : ℕ) (js : List Job) → js ≡ listed → k ≡ length js
        → m ≡ max (max_below k (levels_needing free (resource_count (table_of t)) js)) (running_level (table_of t) fs) → m ≡ system_ceiling (table_of t) fs
    unfolding system_ceiling
    system_all k m js e q h = h ∙ rw (q, e) (ap (λ x. max x (running_level (table_of t) fs)) needing_listed)
