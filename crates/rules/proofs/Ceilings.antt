-- Laws of ceilings: fewer free units never lower one, and a job whose level is above it can have its whole need.
use Rattle.std.specs.Prelude.{List, [], ℕ, ◌≤◌, ◌<◌, ltb}
use Rattle.std.proofs.Common.{arith}
use Rattle.std.proofs.lemmas.Bool.Decides.{nat_tests}
use Rattle.rules.specs.Choice.{pick}
use Rattle.rules.specs.Table.{Table, job_count, resource_count, level_of, need_of, units_of}
use Rattle.rules.specs.State.{Started, held_in, free_in}
use Rattle.rules.specs.Ceilings.{ceiling, resource_ceiling}
use Rattle.rules.proofs.Counts.{max_below_le, le_max_below, max_below_mono}
use Rattle.rules.proofs.Tables.{Good}

-- fewer free: no lower ceiling
pub ceiling_mono : (t : Table) (r v w : ℕ) → w ≤ v → ceiling t r v ≤ ceiling t r w
unfolding ceiling
ceiling_mono t r v w h = max_below_mono (job_count t) _ _ (λ j l. grind (arith, nat_tests))

-- a job above the ceiling can have its whole need
pub need_le : (t : Table) (r v j : ℕ) → j < job_count t → ceiling t r v < level_of t j → need_of t j r ≤ v
unfolding ceiling
need_le t r v j l h = grind (arith, nat_tests, le_max_below (job_count t) (λ k. pick (ltb v (need_of t k r)) (level_of t k) 0) j l)

-- with all units free it is 0
pub ceiling_zero : (t : Table) → Good t → (r v : ℕ) → units_of t r ≤ v → ceiling t r v ≤ 0
unfolding ceiling
ceiling_zero t g r v h = max_below_le (job_count t) _ 0 (λ j l. grind (arith, nat_tests, g.fits j r))

pub le_resource_ceiling : (t : Table) (fs : List Started) (r : ℕ) → r < resource_count t → ceiling t r (free_in t fs r) ≤ resource_ceiling t fs
unfolding resource_ceiling
le_resource_ceiling t fs r l = le_max_below (resource_count t) (λ r. ceiling t r (free_in t fs r)) r l

-- more held: no lower ceiling
pub resource_ceiling_mono : (t : Table) (fs gs : List Started) → ((r : ℕ) → r < resource_count t → held_in fs r ≤ held_in gs r)
    → resource_ceiling t fs ≤ resource_ceiling t gs
unfolding resource_ceiling
resource_ceiling_mono t fs gs h =
    max_below_mono (resource_count t) _ _ (λ r l. ceiling_mono t r (free_in t fs r) (free_in t gs r) (omega (arith, h r l)))

-- nothing held: 0
pub resource_ceiling_zero : (t : Table) → Good t → resource_ceiling t [] ≤ 0
unfolding resource_ceiling held_in
resource_ceiling_zero t g = max_below_le (resource_count t) _ 0 (λ r l. ceiling_zero t g r (free_in t [] r) (omega arith))
