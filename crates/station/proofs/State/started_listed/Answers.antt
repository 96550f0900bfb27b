-- The chain tests each started job, from the lowest up.
use Rattle.std.specs.Prelude.{ltb, take}
use Rattle.std.proofs.Common.{rules, tests}
use Rattle.std.proofs.lemmas.Iterator.{YieldsList-from_slice}
use Rattle.std.proofs.lemmas.Iterator.Search.{all_from_yields_List}
use Rattle.rules.specs.Table.{job_count}
use Rattle.table.specs.Arrays.{table_of}
use Rattle.station.specs.declared.Started.{Started}
use Rattle.station.proofs.Formed.{by_started}
use Rattle.station.proofs.State.started_listed.Goals as goal

pub returns : goal.returns
returns c =
    let s = c.args.self.now in
    let n = job_count (table_of s.table) in
    by_started (λ j. ltb j n) s.table.resource_count (take s.depth s.stack) c.all.result
    (all_from_yields_List (λ (f : Started). ltb f.job.0 n) _ _ c.all.result c.all.ensures.ran
    (YieldsList-from_slice (take s.depth s.stack) cc)
    (λ x b q k. search (rules, tests)))
