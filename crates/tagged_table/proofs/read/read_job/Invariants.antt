-- The needs so far are written, and whether those that are left are within the units decides.
use Rattle.std.proofs.Common.{◌≡◌, length, drop, take}
use Rattle.rules.specs.Limits.{max_resources}
use Rattle.rules.specs.Counting.{none_above}
use Rattle.table.specs.Arrays.{padded}
use Rattle.tagged_table.specs.Form.{pairs}
use Rattle.tagged_table.proofs.read.read_job.Given as goal

abbrev pub invariant-loop-r : goal.invariant-loop-r
invariant-loop-r l =
    let declared = pairs (length l.units) (drop 3 (drop l.value.at l.value.bytes.now)) in
    record {
      level : l.job.level ≡ l.initial.job.level;
      frame : l.job.frame ≡ l.initial.job.frame;
      needs : l.job.needs ≡ padded 0 max_resources (take l.r declared);
      fits : none_above (drop l.r l.units) (drop l.r declared) ≡ none_above l.units declared;
    }
