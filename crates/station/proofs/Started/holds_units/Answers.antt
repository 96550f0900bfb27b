-- Some units are above 0 exactly if their sum is.
use Rattle.std.specs.Prelude.{ltb}
use Rattle.std.proofs.Common.{◌∙◌, rules, tests}
use Rattle.std.proofs.lemmas.Iterator.{YieldsList-from_slice}
use Rattle.std.proofs.lemmas.Iterator.Search.{any_from_yields_List}
use Rattle.station.proofs.Refusing.{some_held}
use Rattle.station.proofs.Started.holds_units.Goals as goal

pub returns : goal.returns
returns c =
    any_from_yields_List (λ u. ltb 0 u) c.any.new.self _ c.any.result c.any.ensures.ran (YieldsList-from_slice c.args.self.now.held cc)
    (λ x b q k. search (rules, tests))
    ∙ some_held c.args.self.now.held
