-- Each entry is the largest frame at its level of the jobs so far.
use Rattle.table.proofs.Largest.{Largest}
use Rattle.table.proofs.Table.largest_by_level.Given as goal

abbrev pub invariant-loop-job : goal.invariant-loop-job
invariant-loop-job l = Largest l.job-items l.job-index l.largest
