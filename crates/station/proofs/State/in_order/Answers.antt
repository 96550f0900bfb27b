-- All that wait fall from the greatest level on.
use Rattle.std.specs.Prelude.{map}
use Rattle.table.specs.Arrays.{table_of}
use Rattle.station.specs.Arrays.{entry_of}
use Rattle.station.proofs.Formed.{falls_all}
use Rattle.station.proofs.State.in_order.Goals as goal

pub loop-job-init : goal.loop-job-init
loop-job-init c = rw (← c.waiting_jobs-job-items.ensures) (falls_all (table_of c.args.self.now.table) (map entry_of c.waiting_jobs-job-items.result.now))
