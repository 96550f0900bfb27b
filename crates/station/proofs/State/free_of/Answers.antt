-- The lemmas of Units at this loop.
use Rattle.std.proofs.Common.{arith}
use Rattle.station.proofs.View.{absent}
use Rattle.station.proofs.Units.{listed_resource, held_none, held_more}
use Rattle.station.proofs.State.free_of.Goals as goal

pub loop-started-init : goal.loop-started-init
loop-started-init c = record { small = omega arith; sum = held_none c.args.resource }

pub loop-started-preserved : goal.loop-started-preserved
loop-started-preserved c =
    let t = c.args.self.now.table in
    let e =
    held_more t.resource_count c.loop-started.started-index c.args.resource c.started-started-items.result.now
    absent c.loop-started-test.true (listed_resource t.resource_count c.args.resource t.units c.requires)
    in
    record { small = omega arith; sum = omega arith }
