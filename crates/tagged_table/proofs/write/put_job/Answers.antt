-- The field's stores are one run.
use Rattle.std.proofs.Common.{◌≡◌, length, take, rules}
use Rattle.tagged_table.proofs.Put.{job_length, job_put}
use Rattle.tagged_table.proofs.write.put_job.Goals as goal

pub returns-clause-length : goal.returns-clause-length
returns-clause-length c = job_length c.args.job.now c.args.resources (search rules)

pub returns-clause-bytes : goal.returns-clause-bytes
returns-clause-bytes c =
    let all : length (take c.args.resources c.args.job.now.needs) ≡ c.args.resources = search rules in
    rw (c.put_needs.ensures, c.put-3.ensures, c.put-2.ensures, c.put.ensures, c.from.ensures, c.from-2.ensures)
    (job_put c.args.out.now c.args.at c.args.resources c.args.job.now all)
