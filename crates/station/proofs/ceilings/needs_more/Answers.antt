-- The chain tests each of the first needs against what is free.
use Rattle.std.specs.Prelude.{ℕ, ltb}
use Rattle.std.proofs.Common.{rules, tests, arith, ◌∙◌}
use Rattle.std.proofs.lemmas.Iterator.{YieldsList-from_slice, YieldsList-from_take, YieldsList-from_zip}
use Rattle.std.proofs.lemmas.Iterator.Search.{any_from_yields_List}
use Rattle.station.proofs.Largest.{any_above}
use Rattle.station.proofs.ceilings.needs_more.Goals as goal

pub returns : goal.returns
returns c =
    any_from_yields_List (λ (p : ℕ × ℕ). ltb p.1 p.0) c.any.new.self _ c.any.result c.any.ensures.ran
    (YieldsList-from_take c.args.resources (YieldsList-from_zip (YieldsList-from_slice c.args.job.now.needs cc) (YieldsList-from_slice c.args.free.now cc)) cc)
    (λ x b q k. search (rules, tests))
    ∙ any_above c.args.resources c.args.job.now.needs c.args.free.now (omega arith)
