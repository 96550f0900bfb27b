-- The chain tests each listed resource.
use Rattle.std.specs.Prelude.{take}
use Rattle.std.proofs.Common.{rules, tests}
use Rattle.std.proofs.lemmas.Iterator.{YieldsList-from_slice}
use Rattle.std.proofs.lemmas.Iterator.Search.{all_from_yields_List}
use Rattle.rules.specs.Limits.{max_units}
use Rattle.rules.specs.Counting.{within}
use Rattle.table.proofs.Tests.{by_all}
use Rattle.table.proofs.Table.units_fit.Goals as goal

pub returns : goal.returns
returns c =
    let test = within 1 max_units in
    by_all test _ c.all.result
    (all_from_yields_List test _ _ c.all.result c.all.ensures.ran
    (YieldsList-from_slice (take c.args.self.now.resource_count c.args.self.now.units) cc)
    (λ x b q k. search (rules, tests)))
