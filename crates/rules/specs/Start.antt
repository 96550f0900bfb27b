-- docs/RULES.md, "Rules of the policy": the start test. It is for the head alone, and no other waiting job is tried.
use Rattle.std.specs.Prelude.{Bool, false, List, [], ◌∷◌, ltb}
use Rattle.rules.specs.Choice.{pick}
use Rattle.rules.specs.Table.{Table}
use Rattle.rules.specs.State.{Entry, Started, State, put, level_at, nothing_held}
use Rattle.rules.specs.Ceilings.{system_ceiling}

-- The head starts exactly when its level is greater than the system ceiling.
unfoldable pub starts : Table → List Started → List Entry → Bool
starts t fs [] = false
starts t fs (k ∷ ks) = ltb (system_ceiling t fs) (level_at t k)

-- A job that starts holds nothing.
abbrev pub newly_started : Table → Entry → Started
newly_started t e = record { entry = e; held = nothing_held t }

-- The state with its head started: it leaves the waiting jobs and is the top of the stack.
abbrev pub with_start : Table → State → List Entry → State
with_start t s [] = s
with_start t s (k ∷ ks) = put s (newly_started t k ∷ s.stack) ks

-- The start test, made once.
unfoldable pub start_test : Table → State → State
start_test t s = pick (starts t s.stack s.waiting) (with_start t s s.waiting) s
