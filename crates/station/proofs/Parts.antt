-- What a well-formed state says, part by part: its table could be written, its entries past a count are zero, and the rules' tests of its
-- jobs hold. By the test's own conjunction, taken apart and put together.
use Rattle.std.specs.Prelude.{◌≡◌, Bool, true, ◌≤◌, length, take, drop}
use Rattle.std.proofs.Common.{arith, eq-eqb, eqb-true, le-leb}
use Rattle.std.proofs.lemmas.Bool.Decides.{nat_tests}
use Rattle.rules.specs.Limits.{max_jobs}
use Rattle.rules.specs.Counting.{every}
use Rattle.rules.specs.WellFormed.{well_kept}
use Rattle.table.specs.declared.JobNo.{JobNo}
use Rattle.table.specs.Arrays.{table_of}
use Rattle.table.specs.Judging.{is_zero, table_judged}
use Rattle.table.proofs.Fit.{Fit, fit}
use Rattle.station.specs.declared.State.{State}
use Rattle.station.specs.Arrays.{state_of}
use Rattle.station.specs.WellFormed.{table_fits, held_blank, started_blank, well_formed}

-- Is nobody there?
abbrev pub none_there : JobNo → Bool
none_there j = is_zero j.0

-- Its counts are within its arrays, and entries past a count are zero.
pub record Blank (s : State) : Type 0 where
  pub depth_fits : s.depth ≤ max_jobs
  pub count_fits : s.waiting_count ≤ max_jobs
  pub stack_length : length s.stack ≡ max_jobs
  pub held_fits : every (held_blank s.table.resource_count) (take s.depth s.stack) ≡ true
  pub stack_past : every started_blank (drop s.depth s.stack) ≡ true
  pub waiting_length : length s.waiting ≡ max_jobs
  pub waiting_past : every none_there (drop s.waiting_count s.waiting) ≡ true

-- The whole.
pub record Formed (s : State) : Type 0 where
  pub judged : table_judged s.table ≡ 0
  pub padding : Blank s
  pub kept : well_kept (table_of s.table) (state_of s) ≡ true

-- A well-formed state taken apart ..
pub formed : (s : State) → well_formed s ≡ true → Formed s
unfolding well_formed
formed s h =
    record {
      judged = grind (arith, nat_tests);
      padding = record {
        depth_fits = grind (arith, nat_tests);
        count_fits = grind (arith, nat_tests);
        stack_length = grind (arith, nat_tests);
        held_fits = grind arith;
        stack_past = grind arith;
        waiting_length = grind (arith, nat_tests);
        waiting_past = grind arith;
      };
      kept = grind arith;
    }

-- .. and put together again.
pub formed_well : (s : State) → Formed s → well_formed s ≡ true
unfolding well_formed
formed_well s f =
    let b = f.padding in
    rw (
      eq-eqb (table_judged s.table) 0 f.judged,
      le-leb s.depth max_jobs b.depth_fits,
      le-leb s.waiting_count max_jobs b.count_fits,
      eq-eqb (length s.stack) max_jobs b.stack_length,
      b.held_fits,
      b.stack_past,
      eq-eqb (length s.waiting) max_jobs b.waiting_length,
      b.waiting_past,
    ) f.kept

-- What judging tells of a table that passes its test, ..
pub tested_fit : (s : State) → table_fits s ≡ true → Fit s.table
tested_fit s h = fit s.table (eqb-true (table_judged s.table) 0 h)

-- .. so of a well-formed state's.
pub table_fit : (s : State) → well_formed s ≡ true → Fit s.table
table_fit s h = fit s.table (formed s h).judged
