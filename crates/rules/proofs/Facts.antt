-- Single facts of an event: a refused one changes nothing, an acquire starts nobody, release all leaves its job with nothing.
use Rattle.std.specs.Prelude.{◌≡◌, ◌≢◌, false, not, List, [], ◌∷◌, ℕ, eqb}
use Rattle.std.proofs.Common.{true≢false, ne_eqb, eq-eqb}
use Rattle.std.proofs.Math.Bool.{and-false}
use Rattle.std.proofs.Math.Option.{none}
use Rattle.std.proofs.lemmas.Bool.{not-false}
use Rattle.rules.specs.Table.{Table, resource_count}
use Rattle.rules.specs.State.{Entry, Started, State, put, is_running, nothing_held}
use Rattle.rules.specs.Start.{starts, start_test}
use Rattle.rules.specs.Events.{Event, acquire, release_all, checks, with_held, applied, refusal, after, starts_after, started_by}
use Rattle.rules.specs.Memory.{memory_after}
use Rattle.rules.specs.Demand3.{units_held}
use Rattle.rules.proofs.Choices.{pick_case, stopped}
use Rattle.rules.proofs.Counts.{total_zeros}

-- A refused event leaves the state and the stack memory as they were.
pub refused_state : (t : Table) (s : State) (e : Event) → refusal t s e ≢ 0 → after t s e ≡ s
unfolding after
refused_state t s e h = rw (ne_eqb (refusal t s e) 0 h)

pub refused_memory : (t : Table) (s : State) (e : Event) (m : List ℕ) → refusal t s e ≢ 0 → memory_after t s e m ≡ m
unfolding memory_after starts_after
refused_memory t s e m h = rw (ne_eqb (refusal t s e) 0 h)

-- Nor does it start a job.
pub refused_starts_none : (t : Table) (s : State) (e : Event) → refusal t s e ≢ 0 → started_by t s e ≡ none
unfolding started_by starts_after
refused_starts_none t s e h = rw (ne_eqb (refusal t s e) 0 h)

-- No start test is made after an acquire.
pub acquire_starts_none : (t : Table) (s : State) (j r n : ℕ) → started_by t s (acquire j r n) ≡ none
unfolding started_by starts_after
acquire_starts_none t s j r n = rw (and-false (eqb (refusal t s (acquire j r n)) 0))

-- ---- release all gives back everything the job holds, and only then makes its one start test

-- a job that starts holds nothing
start_holds : (t : Table) (s : State) (fs : List Started) (ks : List Entry) (j : ℕ) → units_held fs j ≡ 0 → units_held (start_test t (put s fs ks)).stack j ≡ 0
unfolding start_test units_held
start_holds t s fs [] j h = pick_case (λ (u : State). units_held u.stack j ≡ 0) (starts t fs []) _ _ (λ _. h) (λ _. h)
start_holds t s fs (k ∷ ks) j h =
    pick_case (λ (u : State). units_held u.stack j ≡ 0) (starts t fs (k ∷ ks)) _ _
    (λ _. pick_case (λ (n : ℕ). n ≡ 0) (eqb k.who j) _ _ (λ _. total_zeros (resource_count t)) (λ _. h))
    (λ _. h)

emptied : (t : Table) (fs : List Started) (j : ℕ) → not (is_running fs j) ≡ false → units_held (with_held fs (nothing_held t)) j ≡ 0
unfolding units_held
emptied t [] j h = absurd (true≢false h)
emptied t (f ∷ fs) j h = rw (not-false (eqb f.entry.who j) h) (total_zeros (resource_count t))

pub release_all_empties : (t : Table) (s : State) (j : ℕ) → refusal t s (release_all j) ≡ 0 → units_held (after t s (release_all j)).stack j ≡ 0
unfolding refusal after applied
release_all_empties t s j h =
    rw (eq-eqb _ 0 h)
    (start_holds t s (with_held s.stack (nothing_held t)) s.waiting j
    (emptied t s.stack j (stopped 0 (checks t s (release_all j)) h).1.0))
