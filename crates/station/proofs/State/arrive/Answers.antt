-- A listed job that is not active finds room.
use Rattle.std.proofs.Common.{arith}
use Rattle.std.proofs.lemmas.Bool.Decides.{nat_tests}
use Rattle.station.proofs.Room.{room_for}
use Rattle.station.proofs.State.arrive.Goals as goal

pub enter-requires-clause-room : goal.enter-requires-clause-room
enter-requires-clause-room c = omega (arith, room_for c.args.self.now c.args.job.0 c.requires (grind (arith, nat_tests)) (grind arith))
