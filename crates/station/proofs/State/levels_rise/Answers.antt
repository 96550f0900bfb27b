-- The whole stack rises from 0 on.
use Rattle.table.specs.Arrays.{table_of}
use Rattle.station.proofs.Formed.{rises_all}
use Rattle.station.proofs.State.levels_rise.Goals as goal

pub loop-started-init : goal.loop-started-init
loop-started-init c = rw (← c.started-started-items.ensures) (rises_all (table_of c.args.self.now.table) c.args.self.now.table.resource_count c.started-started-items.result.now)
