-- Who is active, as the code looks for it: in the places of the stack, then among the waiting jobs.
-- A test of some element is the library's `list_any`, and the order of the stack does not matter to it.
use Rattle.std.specs.Prelude.{◌≡◌, refl, Bool, ◌||◌, List, [], ◌∷◌, map, ℕ, take, eqb, true, false}
use Rattle.std.specs.List.{list_any}
use Rattle.std.proofs.Common.{ap, ap₂, sym, ◌∙◌}
use Rattle.rules.specs.Counting.{contains}
use Rattle.rules.specs.State.{started_jobs, waiting_jobs, active_jobs}
use Rattle.rules.proofs.Counts.{contains-append, contains_reverse}
use Rattle.table.specs.declared.JobNo.{JobNo}
use Rattle.station.specs.declared.Started.{Started}
use Rattle.station.specs.declared.State.{State}
use Rattle.station.specs.Arrays.{state_of}
use Rattle.station.proofs.View.{jobs_up, jobs_waiting}

-- A number among those that a list's elements have.
contains_any : {A : Type 0} (number : A → ℕ) (j : ℕ) (xs : List A) → contains j (map number xs) ≡ list_any (λ x. eqb (number x) j) xs
unfolding contains
contains_any number j [] = refl
contains_any number j (x ∷ xs) = ap (λ b. eqb (number x) j || b) (contains_any number j xs)

-- Is the job at one of these places of the stack?
abbrev pub any_started : ℕ → List Started → Bool
any_started j xs = list_any (λ (f : Started). eqb f.job.0 j) xs

-- Is it one of these waiting jobs?
abbrev pub any_waiting : ℕ → List JobNo → Bool
any_waiting j ks = list_any (λ (k : JobNo). eqb k.0 j) ks

-- Who is active is at a place of the stack, or waits.
active_is : (s : State) (j : ℕ)
    → (any_started j (take s.depth s.stack) || any_waiting j (take s.waiting_count s.waiting)) ≡ contains j (active_jobs (state_of s))
active_is s j =
    let m = s.table.resource_count in
    let up : contains j (started_jobs (state_of s).stack) ≡ any_started j (take s.depth s.stack) =
    ap (contains j) (jobs_up m (take s.depth s.stack))
    ∙ contains_reverse j (map (λ (f : Started). f.job.0) (take s.depth s.stack))
    ∙ contains_any (λ (f : Started). f.job.0) j (take s.depth s.stack)
    in
    let behind : contains j (waiting_jobs (state_of s).waiting) ≡ any_waiting j (take s.waiting_count s.waiting) =
    ap (contains j) (jobs_waiting (take s.waiting_count s.waiting)) ∙ contains_any (λ (k : JobNo). k.0) j (take s.waiting_count s.waiting)
    in
    sym (contains-append j (started_jobs (state_of s).stack) (waiting_jobs (state_of s).waiting) ∙ ap₂ ◌||◌ up behind)

-- Found at a place of the stack.
pub active_started : (s : State) (j : ℕ) (r : Bool) → r ≡ any_started j (take s.depth s.stack) → r ≡ true → r ≡ contains j (active_jobs (state_of s))
active_started s j r e q = q ∙ ap (λ b. b || any_waiting j (take s.waiting_count s.waiting)) (sym q ∙ e) ∙ active_is s j

-- Not found there: the waiting jobs decide.
pub active_waiting : (s : State) (j : ℕ) (b r : Bool) → b ≡ any_started j (take s.depth s.stack) → b ≡ false
    → r ≡ any_waiting j (take s.waiting_count s.waiting) → r ≡ contains j (active_jobs (state_of s))
active_waiting s j b r e n q = q ∙ ap (λ a. a || any_waiting j (take s.waiting_count s.waiting)) (sym n ∙ e) ∙ active_is s j
