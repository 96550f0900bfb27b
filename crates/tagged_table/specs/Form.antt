-- docs/RULES.md, "The tagged form": a table, its fields in order, how many of each, their lengths and ranges; read and written.
use Rattle.std.specs.Prelude.{Bool, true, false, ◌&&◌, List, [], ◌∷◌, ◌++◌, ℕ, zero, suc, ◌+◌, ◌*◌, length, get_or, drop, ltb, eqb, Result, Ok}
use Rattle.rules.specs.Limits.{max_jobs, max_resources, max_units, max_bytes}
use Rattle.rules.specs.Choice.{pick}
use Rattle.rules.specs.Counting.{within}
use Rattle.rules.specs.Table.{Job, Table, job_good, stack_good}
use Rattle.table.specs.Refusals.{refused_at, or_refused}
use Rattle.field.specs.Field.{two, pair_at, field, tag_of, length_of, framed}

-- The version, 1.
abbrev pub version : ℕ
version = 1

-- ---- writing

-- What f gives for each element, one after the other.
abbrev pub each : {A : Type 0} → (A → List ℕ) → List A → List ℕ
each f [] = []
each f (x ∷ xs) = f x ++ each f xs

-- 03: units of a resource.
abbrev pub resource_bytes : ℕ → List ℕ
resource_bytes u = field 3 (two u)

-- 04: level, frame (2), needs (2 each).
abbrev pub job_bytes : Job → List ℕ
job_bytes j = field 4 (j.level ∷ two j.frame ++ each two j.needs)

-- The fields before the end field: 01 version, 02 stack size, 03 for each resource, 04 for each job.
abbrev pub fields_bytes : Table → List ℕ
fields_bytes t = field 1 (version ∷ []) ++ field 2 (two t.size) ++ each resource_bytes t.units ++ each job_bytes t.jobs

-- The bytes of a table: 05, the end, is last.
abbrev pub table_bytes : Table → List ℕ
table_bytes t = fields_bytes t ++ field 5 []

-- ---- reading

-- What has been read so far: the last tag (0 before the first), and what the fields gave.
pub record Sofar : Type 0 where
  pub last : ℕ
  pub table : Table

-- Before the first field.
abbrev pub nothing : Sofar
nothing = record { last = 0; table = record { size = 0; units = []; jobs = [] } }

-- By the tag: 01, 02, 03, 04, 05, and what goes for any other tag.
abbrev pub by_tag : {A : Type 0} → ℕ → A → A → A → A → A → A → A
by_tag tag a b c d e other = pick (eqb tag 1) a (pick (eqb tag 2) b (pick (eqb tag 3) c (pick (eqb tag 4) d (pick (eqb tag 5) e other))))

-- 2: a tag that can't stand here. The order is 01, 02, then 03 up to 8 times, then 04 up to 32 times and once at least, then 05.
abbrev pub may_follow : ℕ → ℕ → ℕ → ℕ → Bool
may_follow last resources jobs tag =
    by_tag tag
    (within 0 0 last)
    (within 1 1 last)
    (within 2 3 last && ltb resources max_resources)
    (within 2 4 last && ltb jobs max_jobs)
    (within 4 4 last)
    false

-- May a field with this tag stand next?
unfoldable pub stands : Sofar → ℕ → Bool
stands p tag = may_follow p.last (length p.table.units) (length p.table.jobs) tag

-- 3: wrong length for the tag. The length that each tag wants.
abbrev pub length_wanted : ℕ → ℕ → ℕ
length_wanted resources tag = by_tag tag 1 2 2 (3 + 2 * resources) 0 0

-- The length that a field with this tag has to say.
unfoldable pub wants : Sofar → ℕ → ℕ
wants p tag = length_wanted (length p.table.units) tag

-- n numbers of two bytes each.
abbrev pub pairs : ℕ → List ℕ → List ℕ
pairs zero v = []
pairs (suc n) v = pair_at v 0 ∷ pairs n (drop 2 v)

-- The job in the value of its field, with a need of each of m resources.
abbrev pub job_read : ℕ → List ℕ → Job
job_read m v = record { level = get_or v 0 0; frame = pair_at v 1; needs = pairs m (drop 3 v) }

-- 4: value outside its range.
unfoldable pub good : Sofar → ℕ → List ℕ → Bool
good p tag v =
    by_tag tag
    (eqb (get_or v 0 0) version)
    (within 1 max_bytes (pair_at v 0))
    (within 1 max_units (pair_at v 0))
    (job_good p.table.units (job_read (length p.table.units) v))
    true
    false

-- The table with its stack size ..
abbrev pub sized : Table → ℕ → Table
sized t n = record { size = n; units = t.units; jobs = t.jobs }

-- .. with one more resource ..
abbrev pub with_units : Table → ℕ → Table
with_units t n = record { size = t.size; units = t.units ++ (n ∷ []); jobs = t.jobs }

-- .. and with one more job.
abbrev pub with_job : Table → Job → Table
with_job t j = record { size = t.size; units = t.units; jobs = t.jobs ++ (j ∷ []) }

-- What is known after the field.
unfoldable pub grown : Sofar → ℕ → List ℕ → Sofar
grown p tag v =
    record {
      last = tag;
      table =
          by_tag tag
          p.table
          (sized p.table (pair_at v 0))
          (with_units p.table (pair_at v 0))
          (with_job p.table (job_read (length p.table.units) v))
          p.table
          p.table;
    }

-- The first of two refusals, 0 being none.
abbrev pub or_else : ℕ → ℕ → ℕ
or_else zero k = k
or_else (suc n) k = suc n

-- The refusal of the field at the front of b: 1, 2, 3, 1, then 4; 0 if it is good.
unfoldable pub judged : Sofar → List ℕ → ℕ
judged p b = or_else (framed (stands p) (wants p) b) (pick (good p (tag_of b) (drop 3 b)) 0 4)

-- What reading answers: how many bytes it took and the table, or a refusal's number and place (`refused_at`).
abbrev pub Reading : Type 0
Reading = Result (ℕ × Table) (ℕ × ℕ)

-- A table was read, from n bytes.
abbrev pub took : ℕ → Table → Reading
took n t = Ok (n, t)

-- After the end field: 5, with the offset after it, or the table.
unfoldable pub ended : Sofar → ℕ → Reading
ended p at = pick (stack_good p.table) (took at p.table) (refused_at 5 at)

-- The field at the front of b, which stands at `at`; `go` reads on behind it. The first bad field decides.
abbrev pub step : Sofar → List ℕ → ℕ → (Sofar → List ℕ → ℕ → Reading) → Reading
step p b at go =
    or_refused (judged p b) at
    (pick (eqb (tag_of b) 5) (ended p (at + 3)) (go (grown p (tag_of b) (drop 3 b)) (drop (3 + length_of b) b) (at + (3 + length_of b))))

-- At most n fields.
unfoldable pub read_fields : ℕ → Sofar → List ℕ → ℕ → Reading
read_fields zero p b at = refused_at 1 at
read_fields (suc n) p b at = step p b at (read_fields n)

-- Reading a table. Bytes after the end field are left unread. (Each field takes three bytes at least, so there are no more fields than bytes.)
unfoldable pub table_reading : List ℕ → Reading
table_reading s = read_fields (suc (length s)) nothing s 0
