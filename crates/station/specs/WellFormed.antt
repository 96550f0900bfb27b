-- docs/RULES.md: "A state is well formed if", of a state that is held in arrays.
use Rattle.std.specs.Prelude.{Bool, not, ◌&&◌, ℕ, length, take, drop, leb, eqb}
use Rattle.rules.specs.Limits.{max_jobs, max_resources}
use Rattle.rules.specs.Choice.{Check, refuse}
use Rattle.rules.specs.Counting.{every}
use Rattle.rules.specs.WellFormed.{well_kept}
use Rattle.table.specs.Arrays.{table_of}
use Rattle.table.specs.Judging.{is_zero, table_judged}
use Rattle.station.specs.declared.Started.{Started}
use Rattle.station.specs.declared.State.{State}
use Rattle.station.specs.Arrays.{state_of}

-- Its table could be written without 2, 4 or 5.
abbrev pub table_fits : State → Bool
table_fits s = eqb (table_judged s.table) 0

-- No more jobs are counted than there is room for.
abbrev pub counts_fit : State → Bool
counts_fit s = leb s.depth max_jobs && leb s.waiting_count max_jobs

-- What a place of the stack holds past the first m resources is zero. (Its array has a place for each resource: so says its type.)
abbrev pub held_blank : ℕ → Started → Bool
held_blank m f = eqb (length f.held) max_resources && every is_zero (drop m f.held)

-- A place past the depth: all zero.
abbrev pub started_blank : Started → Bool
started_blank f = is_zero f.job.0 && held_blank 0 f

-- The stack's entries past a count are zero. (Its array has a place for each job.)
abbrev pub stack_blank : State → Bool
stack_blank s =
    eqb (length s.stack) max_jobs
    && every (held_blank s.table.resource_count) (take s.depth s.stack)
    && every started_blank (drop s.depth s.stack)

-- The waiting jobs' entries past their count are zero. (Their array has a place for each job.)
abbrev pub waiting_blank : State → Bool
waiting_blank s = eqb (length s.waiting) max_jobs && every (λ j. is_zero j.0) (drop s.waiting_count s.waiting)

-- Entries past a count are zero.
abbrev pub blank : State → Bool
blank s = stack_blank s && waiting_blank s

-- A state is well formed if its table could be written, its counts fit, entries past a count are zero, and the rules' tests of its jobs hold.
unfoldable pub well_formed : State → Bool
well_formed s = table_fits s && counts_fit s && blank s && well_kept (table_of s.table) (state_of s)

-- 10: state not well formed.
abbrev pub not_well_formed : State → Check
not_well_formed s = refuse (not (well_formed s)) 10
