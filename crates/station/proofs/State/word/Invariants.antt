-- The word of the jobs so far.
use Rattle.std.proofs.Common.{◌≡◌}
use Rattle.rules.specs.Table.{job_count}
use Rattle.table.specs.Arrays.{table_of}
use Rattle.station.proofs.Word.{word_of}
use Rattle.station.proofs.State.word.Given as goal

abbrev pub invariant-loop-job : goal.invariant-loop-job
invariant-loop-job l = l.word ≡ word_of (job_count (table_of l.self.table)) l.job-index l.job-items
