-- A walk that marks each job it meets, and stops at one that is marked: so it finds whether each job is there once.
-- The jobs met stand in a list, the last one first; whether each is there once does not depend on the order of a list.
use Rattle.std.specs.Prelude.{◌≡◌, refl, Bool, true, false, not, List, [], ◌∷◌, ◌++◌, map, reverse, ℕ, ◌+◌, ◌<◌, ◌≤◌, length, get_or, set, take, drop, replicate}
use Rattle.std.proofs.Common.{ap, sym, subst, ◌∙◌, arith, append_assoc}
use Rattle.std.proofs.lemmas.Bool.{cases_eq, and_from, and_left}
use Rattle.std.proofs.lemmas.Bool.Decides.{nat_tests}
use Rattle.std.proofs.lemmas.List.{append-nil, map-append, reverse-append, take_all, take-append-drop, get_or-set_same, get_or-set_other, get_or-replicate}
use Rattle.rules.specs.Limits.{max_jobs}
use Rattle.rules.specs.Counting.{contains, each_once}
use Rattle.rules.specs.State.{started_jobs, waiting_jobs}
use Rattle.rules.specs.WellFormed.{all_listed, none_twice}
use Rattle.rules.proofs.Counts.{reverse-first, once_move, once_behind}
use Rattle.table.specs.declared.JobNo.{JobNo}
use Rattle.table.specs.Arrays.{table_of}
use Rattle.station.specs.declared.Started.{Started}
use Rattle.station.specs.declared.State.{State}
use Rattle.station.specs.Arrays.{entry_of, started_in, state_of}
use Rattle.station.specs.WellFormed.{table_fits}
use Rattle.station.specs.Seen.{Marks}
use Rattle.station.proofs.View.{reversed_more, jobs_up, jobs_waiting}
use Rattle.station.proofs.Formed.{few_started, few_waiting}

-- ---- each number once, whatever the order

-- A number that is there twice is there twice in a longer list.
twice_behind : (xs ys : List ℕ) → each_once ys ≡ false → each_once (xs ++ ys) ≡ false
twice_behind xs ys h = grind (arith, once_behind xs ys)

-- Numbers put in front of others one by one, or behind them.
once_turned : (xs ys : List ℕ) → each_once (reverse xs ++ ys) ≡ each_once (ys ++ xs)
once_turned [] ys = ap each_once (sym (append-nil ys))
once_turned (x ∷ xs) ys =
    ap (λ us. each_once (us ++ ys)) (reverse-first x xs)
    ∙ ap each_once (append_assoc (reverse xs) (x ∷ []) ys)
    ∙ once_turned xs (x ∷ ys)
    ∙ sym (once_move ys x xs)

-- The same of a longer list that goes on behind.
pub once_before : (xs ys : List ℕ) → each_once xs ≡ false → each_once (xs ++ ys) ≡ false
once_before xs ys h = sym (once_turned ys xs) ∙ twice_behind (reverse ys) xs h

-- ---- marks

-- Before a walk nothing is marked.
pub none_marked : Marks (replicate max_jobs false) []
unfolding contains
none_marked = λ j l. get_or-replicate max_jobs j false false l

-- One job more is marked.
marks_more : (seen : List Bool) (js : List ℕ) (j : ℕ) → length seen ≡ max_jobs → j < max_jobs → Marks seen js → Marks (set seen j true) (j ∷ js)
unfolding contains
marks_more seen js j n l h k m = grind (arith, nat_tests, cases_eq k j, get_or-set_same, get_or-set_other, h k m)

-- ---- places passed one by one, the last one first

-- The places that are left go before those passed.
walk_split : {A B : Type 0} (f : A → B) (i : ℕ) (xs : List A) → reverse (map f xs) ≡ reverse (map f (drop i xs)) ++ reverse (map f (take i xs))
walk_split f i xs =
    ap (λ ys. reverse (map f ys)) (sym (take-append-drop i xs))
    ∙ ap reverse (map-append f (take i xs) (drop i xs))
    ∙ reverse-append (map f (take i xs)) (map f (drop i xs))

-- ---- the walk over places xs, each with its job, where the jobs before it are marked

-- The jobs met after i steps, the last one first, and those before.
abbrev pub met : {A : Type 0} → (A → ℕ) → List A → List ℕ → ℕ → List ℕ
met job xs before i = reverse (map job (take i xs)) ++ before

-- After i steps the jobs met are marked, and each is there once.
pub record Seen {A : Type 0} (job : A → ℕ) (xs : List A) (before : List ℕ) (i : ℕ) (seen : List Bool) : Type 0 where
  pub marked : Marks seen (met job xs before i)
  pub once : each_once (met job xs before i) ≡ true

-- Before the first step.
pub seen_before : {A : Type 0} (job : A → ℕ) (xs : List A) (before : List ℕ) (seen : List Bool) → Marks seen before → each_once before ≡ true
    → Seen job xs before 0 seen
seen_before job xs before seen m o = record { marked = m; once = o }

-- Where none was met before.
pub none_seen : {A : Type 0} (job : A → ℕ) (xs : List A) (seen : List Bool) → Marks seen [] → Seen job xs [] 0 seen
unfolding each_once
none_seen job xs seen m = seen_before job xs [] seen m refl

-- A walk to the end has met all.
seen_all : {A : Type 0} (job : A → ℕ) (xs : List A) (before : List ℕ) (i : ℕ) (seen : List Bool) → length xs ≤ i → Seen job xs before i seen
    → Marks seen (reverse (map job xs) ++ before) × (each_once (reverse (map job xs) ++ before) ≡ true)
seen_all job xs before i seen l s =
    subst (λ ys. Marks seen (reverse (map job ys) ++ before) × (each_once (reverse (map job ys) ++ before) ≡ true)) (take_all i xs l) (s.marked, s.once)

module _ {A : Type 0} (job : A → ℕ) (xs : List A) (before : List ℕ) (few : (i : ℕ) (d : A) → i < length xs → job (get_or xs i d) < max_jobs) where
  -- One job more is met.
  met_more : (i : ℕ) (d : A) → i < length xs → met job xs before (i + 1) ≡ job (get_or xs i d) ∷ met job xs before i
  met_more i d l = ap (λ js. js ++ before) (reversed_more job i xs d l)

  -- A job that is not marked is marked, and the walk goes on.
  pub seen_more : (i : ℕ) (d : A) (seen : List Bool) → i < length xs → length seen ≡ max_jobs → Seen job xs before i seen
      → not (get_or seen (job (get_or xs i d)) false) ≡ true → Seen job xs before (i + 1) (set seen (job (get_or xs i d)) true)
  unfolding each_once
  seen_more i d seen l n s h =
      record {
        marked = rw (met_more i d l) (marks_more seen (met job xs before i) (job (get_or xs i d)) n (few i d l) s.marked);
        once = rw (met_more i d l) (and_from _ _ (ap not (sym (s.marked _ (few i d l))) ∙ h) s.once);
      }

  -- A job that is marked already is there twice.
  seen_twice : (i : ℕ) (d : A) (seen : List Bool) → i < length xs → Seen job xs before i seen
      → not (get_or seen (job (get_or xs i d)) false) ≡ false → each_once (reverse (map job xs) ++ before) ≡ false
  unfolding each_once
  seen_twice i d seen l s h =
      let twice : each_once (met job xs before (i + 1)) ≡ false = rw (met_more i d l) (and_left _ _ (ap not (sym (s.marked _ (few i d l))) ∙ h)) in
      let left = reverse (map job (drop (i + 1) xs)) in
      ap (λ js. each_once (js ++ before)) (walk_split job (i + 1) xs)
      ∙ ap each_once (append_assoc left (reverse (map job (take (i + 1) xs))) before)
      ∙ twice_behind left (met job xs before (i + 1)) twice

-- ---- the jobs of a state

module _ (s : State) (fits : table_fits s ≡ true) (h : all_listed (table_of s.table) (state_of s) ≡ true) where
  module _ (xs : List Started) (e : xs ≡ take s.depth s.stack) where
    -- The started jobs, met from the lowest up, stand as in the stack.
    met_started : reverse (map (λ f. f.job.0) xs) ++ [] ≡ started_jobs (state_of s).stack
    met_started =
        let m = s.table.resource_count in
        append-nil _ ∙ sym (jobs_up m xs) ∙ ap (λ us. started_jobs (reverse (map (started_in m) us))) e

    -- One that is marked already is started twice ..
    pub started_twice : (i : ℕ) (d : Started) (seen : List Bool) → i < length xs → Seen (λ f. f.job.0) xs [] i seen
        → not (get_or seen (get_or xs i d).job.0 false) ≡ false → each_once (started_jobs (state_of s).stack) ≡ false
    started_twice i d seen l n p =
        ap each_once (sym met_started) ∙ seen_twice (λ f. f.job.0) xs [] (few_started s fits h xs e) i d seen l n p

    -- .. and a walk to the end has marked all.
    pub started_all : (i : ℕ) (seen : List Bool) → length xs ≤ i → Seen (λ f. f.job.0) xs [] i seen
        → Marks seen (started_jobs (state_of s).stack) × (each_once (started_jobs (state_of s).stack) ≡ true)
    started_all i seen l n = subst (λ js. Marks seen js × (each_once js ≡ true)) met_started (seen_all (λ f. f.job.0) xs [] i seen l n)

  module _ (xs : List JobNo) (e : xs ≡ take s.waiting_count s.waiting) where
    -- The waiting jobs, met after them: each is there once, or not, as in the state.
    once_waiting : none_twice (state_of s) ≡ each_once (reverse (map (λ j. j.0) xs) ++ started_jobs (state_of s).stack)
    once_waiting =
        let js = started_jobs (state_of s).stack in
        ap (λ us. each_once (js ++ us)) (ap (λ us. waiting_jobs (map entry_of us)) (sym e) ∙ jobs_waiting xs)
        ∙ sym (once_turned (map (λ j. j.0) xs) js)

    -- One that is marked already is active twice ..
    pub waiting_twice : (i : ℕ) (d : JobNo) (seen : List Bool) → i < length xs → Seen (λ j. j.0) xs (started_jobs (state_of s).stack) i seen
        → not (get_or seen (get_or xs i d).0 false) ≡ false → none_twice (state_of s) ≡ false
    waiting_twice i d seen l n p =
        once_waiting ∙ seen_twice (λ j. j.0) xs (started_jobs (state_of s).stack) (few_waiting s fits h xs e) i d seen l n p

    -- .. and after a walk to the end none is.
    pub waiting_all : (i : ℕ) (seen : List Bool) → length xs ≤ i → Seen (λ j. j.0) xs (started_jobs (state_of s).stack) i seen → none_twice (state_of s) ≡ true
    waiting_all i seen l n = once_waiting ∙ (seen_all (λ j. j.0) xs (started_jobs (state_of s).stack) i seen l n).1
