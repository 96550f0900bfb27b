-- docs/RULES.md, "Rules of the policy": the ceiling of a resource and the system ceiling.
use Rattle.std.specs.Prelude.{List, ℕ, max, ltb}
use Rattle.rules.specs.Choice.{pick}
use Rattle.rules.specs.Counting.{max_below}
use Rattle.rules.specs.Table.{Table, job_count, resource_count, level_of, need_of}
use Rattle.rules.specs.State.{Started, free_in, running_level}

-- Ceiling of a resource with v free: the largest level among the jobs whose need is greater than v, or 0 if there is none.
unfoldable pub ceiling : Table → ℕ → ℕ → ℕ
ceiling t r v = max_below (job_count t) (λ j. pick (ltb v (need_of t j r)) (level_of t j) 0)

-- The largest of all resource ceilings, with the units that the started jobs leave free.
unfoldable pub resource_ceiling : Table → List Started → ℕ
resource_ceiling t fs = max_below (resource_count t) (λ r. ceiling t r (free_in t fs r))

-- System ceiling: the largest of all resource ceilings and of the running job's level; 0 if there are neither.
unfoldable pub system_ceiling : Table → List Started → ℕ
system_ceiling t fs = max (resource_ceiling t fs) (running_level t fs)
