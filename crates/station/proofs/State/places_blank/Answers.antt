-- The chain tests each place past the depth.
use Rattle.std.proofs.Common.{rules, tests}
use Rattle.std.proofs.lemmas.Iterator.{YieldsList-from_slice}
use Rattle.std.proofs.lemmas.Iterator.Adapters.{YieldsList-from_skip}
use Rattle.std.proofs.lemmas.Iterator.Search.{all_from_yields_List}
use Rattle.table.proofs.Tests.{by_all}
use Rattle.station.specs.WellFormed.{started_blank}
use Rattle.station.proofs.State.places_blank.Goals as goal

pub returns : goal.returns
returns c =
    by_all started_blank _ c.all.result
    (all_from_yields_List started_blank _ _ c.all.result c.all.ensures.ran
    (YieldsList-from_skip c.args.self.now.depth (YieldsList-from_slice c.args.self.now.stack cc) cc)
    (λ x b q k. search (rules, tests)))
