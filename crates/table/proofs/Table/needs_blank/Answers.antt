-- The chain tests each listed job.
use Rattle.std.specs.Prelude.{take}
use Rattle.std.proofs.Common.{rules, tests}
use Rattle.std.proofs.lemmas.Iterator.{YieldsList-from_slice}
use Rattle.std.proofs.lemmas.Iterator.Search.{all_from_yields_List}
use Rattle.table.specs.Judging.{needs_blank}
use Rattle.table.proofs.Tests.{by_all}
use Rattle.table.proofs.Table.needs_blank.Goals as goal

pub returns : goal.returns
returns c =
    let test = needs_blank c.args.self.now.resource_count in
    by_all test _ c.all.result
    (all_from_yields_List test _ _ c.all.result c.all.ensures.ran
    (YieldsList-from_slice (take c.args.self.now.job_count c.args.self.now.jobs) cc)
    (λ x b q k. search (rules, tests)))
