-- The chain tests each place past the count.
use Rattle.std.proofs.Common.{rules, tests}
use Rattle.std.proofs.lemmas.Iterator.{YieldsList-from_slice}
use Rattle.std.proofs.lemmas.Iterator.Adapters.{YieldsList-from_skip}
use Rattle.std.proofs.lemmas.Iterator.Search.{all_from_yields_List}
use Rattle.table.specs.Judging.{is_zero}
use Rattle.table.specs.declared.JobNo.{JobNo}
use Rattle.station.proofs.Formed.{waiting_blank_is}
use Rattle.station.proofs.State.waiting_blank.Goals as goal

pub returns : goal.returns
returns c =
    let s = c.args.self.now in
    waiting_blank_is s c.all.result (search rules)
    (all_from_yields_List (λ (j : JobNo). is_zero j.0) _ _ c.all.result c.all.ensures.ran
    (YieldsList-from_skip s.waiting_count (YieldsList-from_slice s.waiting cc) cc)
    (λ x b q k. search (rules, tests)))
