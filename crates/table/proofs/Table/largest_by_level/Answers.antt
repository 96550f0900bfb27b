-- The lemmas of Largest at this loop.
use Rattle.std.proofs.Common.{arith}
use Rattle.table.proofs.Largest.{largest_none, largest_more}
use Rattle.table.proofs.Table.largest_by_level.Goals as goal

pub loop-job-init : goal.loop-job-init
loop-job-init c = largest_none c.listed_jobs-job-items.result.now

pub loop-job-preserved : goal.loop-job-preserved
loop-job-preserved c =
    rw c.from-level.ensures
    (largest_more c.listed_jobs-job-items.result.now c.loop-job.largest c.loop-job.job-index c.max.result c.loop-job.invariant (omega arith)
    (rw c.from-level.ensures at c.max.ensures))
