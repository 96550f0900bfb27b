-- The chain tests each waiting job.
use Rattle.std.specs.Prelude.{ltb, take}
use Rattle.std.proofs.Common.{rules, tests}
use Rattle.std.proofs.lemmas.Iterator.{YieldsList-from_slice}
use Rattle.std.proofs.lemmas.Iterator.Search.{all_from_yields_List}
use Rattle.rules.specs.Table.{job_count}
use Rattle.table.specs.Arrays.{table_of}
use Rattle.table.specs.declared.JobNo.{JobNo}
use Rattle.station.proofs.Formed.{by_waiting}
use Rattle.station.proofs.State.waiting_listed.Goals as goal

pub returns : goal.returns
returns c =
    let s = c.args.self.now in
    let n = job_count (table_of s.table) in
    by_waiting (λ j. ltb j n) (take s.waiting_count s.waiting) c.all.result
    (all_from_yields_List (λ (j : JobNo). ltb j.0 n) _ _ c.all.result c.all.ensures.ran
    (YieldsList-from_slice (take s.waiting_count s.waiting) cc)
    (λ x b q k. search (rules, tests)))
