-- As many bytes as the counts say, and as many counted as listed.
use Rattle.std.proofs.Common.{rules}
use Rattle.tagged_table.proofs.Judged.{counted, counted_length}
use Rattle.tagged_table.proofs.write.table_length.Goals as goal

pub returns-clause-bytes : goal.returns-clause-bytes
returns-clause-bytes c =
    rw (c.from-resources.ensures, c.from-jobs.ensures)
    (counted_length c.args.table.now (counted c.args.table.now (search rules) (search rules) c.requires))

pub returns-clause-few : goal.returns-clause-few
returns-clause-few c = (counted c.args.table.now (search rules) (search rules) c.requires).few

pub returns-clause-resources : goal.returns-clause-resources
returns-clause-resources c = (counted c.args.table.now (search rules) (search rules) c.requires).resources

pub returns-clause-jobs : goal.returns-clause-jobs
returns-clause-jobs c = (counted c.args.table.now (search rules) (search rules) c.requires).jobs
