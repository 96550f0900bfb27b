-- The chain tests each need against the units of its resource.
use Rattle.std.specs.Prelude.{ℕ, take, leb}
use Rattle.std.proofs.Common.{rules, tests, arith}
use Rattle.std.proofs.lemmas.Iterator.{YieldsList-from_slice, YieldsList-from_zip}
use Rattle.std.proofs.lemmas.Iterator.Search.{all_from_yields_List}
use Rattle.table.proofs.Tests.{by_zip}
use Rattle.table.proofs.Table.needs_fit.Goals as goal

pub returns : goal.returns
returns c =
    let t = c.args.self.now in
    by_zip t.resource_count t.units c.args.job.now.needs c.all.result (omega arith)
    (all_from_yields_List (λ (p : ℕ × ℕ). leb p.1 p.0) c.all.new.self _ c.all.result c.all.ensures.ran
    (YieldsList-from_zip (YieldsList-from_slice (take t.resource_count t.units) cc) (YieldsList-from_slice c.args.job.now.needs cc))
    (λ x b q k. search (rules, tests)))
