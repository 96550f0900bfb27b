-- The jobs that a walk over a state has seen, as marks.
use Rattle.std.specs.Prelude.{◌≡◌, Bool, false, List, ℕ, ◌<◌, get_or}
use Rattle.rules.specs.Limits.{max_jobs}
use Rattle.rules.specs.Counting.{contains}

-- A mark for each job: true if the job is in the list.
abbrev pub Marks : List Bool → List ℕ → Type 0
Marks seen js = (j : ℕ) → j < max_jobs → get_or seen j false ≡ contains j js
