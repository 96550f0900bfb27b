-- The chain tests each entry past the count.
use Rattle.std.proofs.Common.{rules, tests}
use Rattle.std.proofs.lemmas.Iterator.{YieldsList-from_slice}
use Rattle.std.proofs.lemmas.Iterator.Adapters.{YieldsList-from_skip}
use Rattle.std.proofs.lemmas.Iterator.Search.{all_from_yields_List}
use Rattle.table.specs.Judging.{is_zero}
use Rattle.table.proofs.Tests.{by_all}
use Rattle.table.proofs.Table.units_blank.Goals as goal

pub returns : goal.returns
returns c =
    by_all is_zero _ c.all.result
    (all_from_yields_List is_zero _ _ c.all.result c.all.ensures.ran
    (YieldsList-from_skip c.args.self.now.resource_count (YieldsList-from_slice c.args.self.now.units cc) cc)
    (λ x b q k. search (rules, tests)))
