-- One job more.
use Rattle.std.proofs.Common.{rules, ◌∙◌}
use Rattle.table.specs.Arrays.{absent_job}
use Rattle.tagged_table.proofs.Put.{jobs_more}
use Rattle.tagged_table.proofs.write.put_jobs.Goals as goal

pub loop-job-preserved : goal.loop-job-preserved
loop-job-preserved c =
    let i = c.loop-job.invariant in
    let k = c.loop-job.job-index in
    let j = jobs_more c.loop-job.out c.put_job.new.out c.loop-job.end c.args.resources c.args.jobs.now k absent_job c.loop-job-test.true c.put_job.ensures.bytes c.put_job.ensures.length in
    record {
      place = search rules;
      room = search rules;
      left = rw c.from.ensures (j ∙ i.left);
    }
