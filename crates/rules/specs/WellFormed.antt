-- docs/RULES.md: "A state is well formed if", its sentence part by part.
use Rattle.std.specs.Prelude.{Bool, true, not, ◌&&◌, List, [], ◌∷◌, ltb, leb, eqb}
use Rattle.rules.specs.Counting.{every_below, every, none_above, each_once}
use Rattle.rules.specs.Table.{Table, table_refusal, job_count, resource_count, job_of, units_of}
use Rattle.rules.specs.State.{Entry, Started, State, level_at, running_level, active_jobs, held_in}
use Rattle.rules.specs.Waiting.{sooner}

-- Its table could be written without 2, 4 or 5.
abbrev pub writable : Table → Bool
writable t = eqb (table_refusal t) 0

-- Started and waiting jobs are listed jobs ..
abbrev pub all_listed : Table → State → Bool
all_listed t s = every (λ j. ltb j (job_count t)) (active_jobs s)

-- .. each once, none in both.
abbrev pub none_twice : State → Bool
none_twice s = each_once (active_jobs s)

-- Levels rise strictly up the stack.
unfoldable pub levels_rise : Table → List Started → Bool
levels_rise t [] = true
levels_rise t (f ∷ fs) = ltb (running_level t fs) (level_at t f.entry) && levels_rise t fs

-- Nobody stands right behind k who is sooner than it.
abbrev pub next_behind : Table → Entry → List Entry → Bool
next_behind t k [] = true
next_behind t k (w ∷ ws) = not (sooner t w k)

-- Waiting levels never rise from head to tail.
unfoldable pub in_order : Table → List Entry → Bool
in_order t [] = true
in_order t (k ∷ ks) = next_behind t k ks && in_order t ks

-- Only started jobs hold units (a state has no others), none above its need.
abbrev pub within_needs : Table → List Started → Bool
within_needs t fs = every (λ f. none_above (job_of t f.entry.who).needs f.held) fs

-- The units held of a resource don't exceed its units.
abbrev pub within_units : Table → List Started → Bool
within_units t fs = every_below (resource_count t) (λ r. leb (held_in fs r) (units_of t r))

-- The state's own part, whatever its table.
abbrev pub well_kept : Table → State → Bool
well_kept t s =
    all_listed t s
    && none_twice s
    && levels_rise t s.stack
    && in_order t s.waiting
    && within_needs t s.stack
    && within_units t s.stack

unfoldable pub well_formed : Table → State → Bool
well_formed t s = writable t && well_kept t s
