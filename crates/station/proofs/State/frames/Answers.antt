-- The lemmas of Places at this loop.
use Rattle.std.proofs.Common.{arith}
use Rattle.table.specs.Arrays.{table_of}
use Rattle.station.proofs.View.{absent}
use Rattle.station.proofs.Places.{frames_none, frames_more}
use Rattle.station.proofs.State.frames.Goals as goal

pub loop-started-init : goal.loop-started-init
loop-started-init c = record { small = omega arith; sum = frames_none (table_of c.args.self.now.table) }

pub loop-started-preserved : goal.loop-started-preserved
loop-started-preserved c =
    let t = c.args.self.now.table in
    let e =
    frames_more (table_of t) t.resource_count c.loop-started.started-index c.started-started-items.result.now
    absent c.loop-started-test.true
    in
    record { small = omega arith; sum = omega arith }
