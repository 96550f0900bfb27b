-- docs/RULES.md, the five events: the refusal of each, what an accepted one changes, and the state after it.
use Rattle.std.specs.Prelude.{Bool, true, false, not, ◌&&◌, List, [], ◌∷◌, ℕ, ◌+◌, ◌-◌, get_or, set, ltb, leb, eqb}
use Rattle.std.proofs.Math.Option.{Option, none}
use Rattle.rules.specs.Choice.{pick, Check, refuse, first_bad}
use Rattle.rules.specs.Counting.{total, contains}
use Rattle.rules.specs.Table.{Table, job_count, resource_count, need_of}
use Rattle.rules.specs.State.{Entry, Started, State, put, active_jobs, is_running, running_held, nothing_held, free_in}
use Rattle.rules.specs.Waiting.{insert, head_of}
use Rattle.rules.specs.Start.{starts, start_test}

-- An event, with its job; for acquire and release then the resource and the amount.
pub data Event : Type 0 where
  arrive : ℕ → Event
  acquire : ℕ → ℕ → ℕ → Event
  release : ℕ → ℕ → ℕ → Event
  finish : ℕ → Event
  release_all : ℕ → Event

-- ---- refusals

-- 12: no such job.
abbrev pub no_such_job : Table → ℕ → Check
no_such_job t j = refuse (leb (job_count t) j) 12

-- 13, arrive: job already waiting or started.
abbrev pub already_active : State → ℕ → Check
already_active s j = refuse (contains j (active_jobs s)) 13

-- 14: job is not the running one. Only the running job acquires, releases and finishes.
abbrev pub not_running : State → ℕ → Check
not_running s j = refuse (not (is_running s.stack j)) 14

-- 15: no such resource.
abbrev pub no_such_resource : Table → ℕ → Check
no_such_resource t r = refuse (leb (resource_count t) r) 15

-- 16: amount 0.
abbrev pub no_amount : ℕ → Check
no_amount n = refuse (eqb n 0) 16

-- The units of resource r that the running job holds.
abbrev pub holds_of : State → ℕ → ℕ
holds_of s r = get_or (running_held s.stack) r 0

-- 17, acquire: held plus amount above the declared need.
abbrev pub above_need : Table → State → ℕ → ℕ → ℕ → Check
above_need t s j r n = refuse (ltb (need_of t j r) (holds_of s r + n)) 17

-- 18, acquire: amount above the free units. Acquire never consults the system ceiling: only the free units count.
abbrev pub above_free : Table → State → ℕ → ℕ → Check
above_free t s r n = refuse (ltb (free_in t s.stack r) n) 18

-- 19: releases more than it holds.
abbrev pub above_held : State → ℕ → ℕ → Check
above_held s r n = refuse (ltb (holds_of s r) n) 19

-- 20: finish while holding units.
abbrev pub still_holds : State → Check
still_holds s = refuse (ltb 0 (total (running_held s.stack))) 20

-- 21: release all while holding nothing.
abbrev pub holds_nothing : State → Check
holds_nothing s = refuse (eqb (total (running_held s.stack)) 0) 21

-- What every event of the running job is tested for first.
abbrev pub by_running : Table → State → ℕ → List Check → List Check
by_running t s j cs = no_such_job t j ∷ not_running s j ∷ cs

-- What every taking of n units of resource r is tested for last.
abbrev pub take_checks : Table → State → ℕ → ℕ → ℕ → List Check
take_checks t s j r n = above_need t s j r n ∷ above_free t s r n ∷ []

-- The tests of an event: 12, then 13, or else 14, 15, 16, 17, 18, 19, 20, 21 as far as each belongs to that event.
abbrev pub checks : Table → State → Event → List Check
checks t s (arrive j) = no_such_job t j ∷ already_active s j ∷ []
checks t s (acquire j r n) = by_running t s j (no_such_resource t r ∷ no_amount n ∷ take_checks t s j r n)
checks t s (release j r n) = by_running t s j (no_such_resource t r ∷ no_amount n ∷ above_held s r n ∷ [])
checks t s (finish j) = by_running t s j (still_holds s ∷ [])
checks t s (release_all j) = by_running t s j (holds_nothing s ∷ [])

-- The refusal number of an event; 0 if it is accepted.
unfoldable pub refusal : Table → State → Event → ℕ
refusal t s e = first_bad (checks t s e)

-- ---- what an accepted event changes

-- A job comes in; the running job's holdings are replaced; or the running job leaves.
pub data Effect : Type 0 where
  enter : Entry → Effect
  hold : List ℕ → Effect
  leave : Effect

-- The running job takes n units of resource r: accepted acquires add.
abbrev pub take : State → ℕ → ℕ → Effect
take s r n = hold (set (running_held s.stack) r (holds_of s r + n))

-- The running job gives back n units of resource r: accepted releases subtract.
abbrev pub give : State → ℕ → ℕ → Effect
give s r n = hold (set (running_held s.stack) r (holds_of s r - n))

-- The effect of each event. Release all gives back everything the job holds.
abbrev pub effect : Table → State → Event → Effect
effect t s (arrive j) = enter (record { who = j })
effect t s (acquire j r n) = take s r n
effect t s (release j r n) = give s r n
effect t s (finish j) = leave
effect t s (release_all j) = hold (nothing_held t)

-- The stack with other holdings of the running job.
abbrev pub with_held : List Started → List ℕ → List Started
with_held [] h = []
with_held (f ∷ fs) h = record { entry = f.entry; held = h } ∷ fs

-- The stack below the running job.
abbrev pub below : List Started → List Started
below [] = []
below (f ∷ fs) = fs

unfoldable pub applied : Table → State → Effect → State
applied t s (enter e) = put s s.stack (insert t e s.waiting)
applied t s (hold h) = put s (with_held s.stack h) s.waiting
applied t s leave = put s (below s.stack) s.waiting

-- The state as the event has left it, before any start test.
abbrev pub change : Table → State → Event → State
change t s e = applied t s (effect t s e)

-- The start test is made after an accepted arrive, release, release all or finish. It is not made after an acquire.
abbrev pub is_tested : Event → Bool
is_tested (arrive j) = true
is_tested (acquire j r n) = false
is_tested (release j r n) = true
is_tested (finish j) = true
is_tested (release_all j) = true

-- ---- the state after an event

-- A moment: the state after an event has been answered, its start test included, whether it was accepted or refused.
unfoldable pub after : Table → State → Event → State
after t s e = pick (eqb (refusal t s e) 0) (pick (is_tested e) (start_test t (change t s e)) (change t s e)) s

-- Does the event start a job?
unfoldable pub starts_after : Table → State → Event → Bool
starts_after t s e = eqb (refusal t s e) 0 && is_tested e && starts t (change t s e).stack (change t s e).waiting

-- The job that it starts, if any.
unfoldable pub started_by : Table → State → Event → Option ℕ
started_by t s e = pick (starts_after t s e) (head_of (change t s e).waiting) none
