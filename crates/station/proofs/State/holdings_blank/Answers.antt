-- The chain tests each started job.
use Rattle.std.specs.Prelude.{take}
use Rattle.std.proofs.Common.{rules, tests}
use Rattle.std.proofs.lemmas.Iterator.{YieldsList-from_slice}
use Rattle.std.proofs.lemmas.Iterator.Search.{all_from_yields_List}
use Rattle.table.proofs.Tests.{by_all}
use Rattle.station.specs.WellFormed.{held_blank}
use Rattle.station.proofs.State.holdings_blank.Goals as goal

pub returns : goal.returns
returns c =
    let s = c.args.self.now in
    let test = held_blank s.table.resource_count in
    by_all test _ c.all.result
    (all_from_yields_List test _ _ c.all.result c.all.ensures.ran
    (YieldsList-from_slice (take s.depth s.stack) cc)
    (λ x b q k. search (rules, tests)))
