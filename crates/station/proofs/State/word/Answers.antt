-- The lemmas of Word at this loop.
use Rattle.std.proofs.Common.{arith}
use Rattle.rules.specs.Table.{job_count}
use Rattle.table.specs.Arrays.{table_of}
use Rattle.station.proofs.View.{no_one}
use Rattle.station.proofs.Word.{word_none, step}
use Rattle.station.proofs.State.word.Goals as goal

pub loop-job-init : goal.loop-job-init
loop-job-init c = word_none (job_count (table_of c.args.self.now.table)) c.waiting_jobs-job-items.result.now

pub overflow_shl-word : goal.overflow_shl-word
overflow_shl-word c =
    (step c.args.self.now c.waiting_jobs-job-items.result.now c.loop-job.job-index no_one c.requires c.waiting_jobs-job-items.ensures c.loop-job-test.true).low

pub overflow_add-word : goal.overflow_add-word
overflow_add-word c =
    let next = step c.args.self.now c.waiting_jobs-job-items.result.now c.loop-job.job-index no_one c.requires c.waiting_jobs-job-items.ensures c.loop-job-test.true in
    omega (arith, next.shifted, next.small)

pub loop-job-preserved : goal.loop-job-preserved
loop-job-preserved c =
    let next = step c.args.self.now c.waiting_jobs-job-items.result.now c.loop-job.job-index no_one c.requires c.waiting_jobs-job-items.ensures c.loop-job-test.true in
    omega (arith, next.shifted, next.more)
