-- How many bytes a table's resources and a job's needs take: five for each resource, two for each need.
-- By one step for each element.
use Rattle.std.specs.Prelude.{◌≡◌, refl, List, [], ◌∷◌, ◌++◌, ℕ, ◌*◌, length}
use Rattle.std.proofs.Common.{arith}
use Rattle.rules.specs.Table.{Job}
use Rattle.field.specs.Field.{two}
use Rattle.tagged_table.specs.Form.{each, resource_bytes}

-- The fields of the resources.
pub resources-length : (us : List ℕ) → length (each resource_bytes us) ≡ 5 * length us
resources-length [] = refl
resources-length (u ∷ us) = omega (arith, resources-length us)

-- The value of a job's field.
abbrev pub job_value : Job → List ℕ
job_value j = j.level ∷ two j.frame ++ each two j.needs

-- The needs in it.
pub pairs-length : (ns : List ℕ) → length (each two ns) ≡ 2 * length ns
pairs-length [] = refl
pairs-length (n ∷ ns) = omega (arith, pairs-length ns)
