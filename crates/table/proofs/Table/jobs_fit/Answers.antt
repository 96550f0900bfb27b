-- The chain tests each listed job.
use Rattle.std.specs.Prelude.{take}
use Rattle.std.proofs.Common.{rules, tests}
use Rattle.std.proofs.lemmas.Iterator.{YieldsList-from_slice}
use Rattle.std.proofs.lemmas.Iterator.Search.{all_from_yields_List}
use Rattle.rules.specs.Table.{job_good}
use Rattle.table.specs.Arrays.{job_in}
use Rattle.table.proofs.Tests.{by_all_mapped}
use Rattle.table.proofs.Table.jobs_fit.Goals as goal

pub returns : goal.returns
returns c =
    let t = c.args.self.now in
    let test = job_good (take t.resource_count t.units) in
    let listed = job_in t.resource_count in
    by_all_mapped test listed _ c.all.result
    (all_from_yields_List (λ j. test (listed j)) _ _ c.all.result c.all.ensures.ran
    (YieldsList-from_slice (take t.job_count t.jobs) cc)
    (λ x b q k. search (rules, tests)))
