-- The chain tests each holding past the resources.
use Rattle.std.proofs.Common.{rules, tests}
use Rattle.std.proofs.lemmas.Iterator.{YieldsList-from_slice}
use Rattle.std.proofs.lemmas.Iterator.Adapters.{YieldsList-from_skip}
use Rattle.std.proofs.lemmas.Iterator.Search.{all_from_yields_List}
use Rattle.table.specs.Judging.{is_zero}
use Rattle.station.proofs.Formed.{held_blank_is}
use Rattle.station.proofs.Started.held_blank.Goals as goal

pub returns : goal.returns
returns c =
    let held = c.args.self.now.held in
    held_blank_is c.args.resources c.args.self.now c.all.result (search rules)
    (all_from_yields_List is_zero _ _ c.all.result c.all.ensures.ran
    (YieldsList-from_skip c.args.resources (YieldsList-from_slice held cc) cc)
    (λ x b q k. search (rules, tests)))
