-- The chain tests each holding against the need of its resource.
use Rattle.std.specs.Prelude.{ℕ, leb}
use Rattle.std.proofs.Common.{rules, tests}
use Rattle.std.proofs.lemmas.Iterator.{YieldsList-from_slice, YieldsList-from_take, YieldsList-from_zip}
use Rattle.std.proofs.lemmas.Iterator.Search.{all_from_yields_List}
use Rattle.table.proofs.Tests.{by_zip}
use Rattle.station.proofs.Started.within_need.Goals as goal

pub returns : goal.returns
returns c =
    let needs = c.args.job.now.needs in
    let held = c.args.self.now.held in
    by_zip c.args.resources needs held c.all.result (search rules)
    (all_from_yields_List (λ (p : ℕ × ℕ). leb p.1 p.0) c.all.new.self _ c.all.result c.all.ensures.ran
    (YieldsList-from_zip (YieldsList-from_take c.args.resources (YieldsList-from_slice needs cc) cc) (YieldsList-from_slice held cc))
    (λ x b q k. search (rules, tests)))
