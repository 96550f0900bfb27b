-- The running job's place is the last one listed.
use Rattle.std.proofs.Common.{arith}
use Rattle.station.proofs.Refusing.{last_blank}
use Rattle.station.proofs.State.runs.Goals as goal

pub returns-clause-blank : goal.returns-clause-blank
returns-clause-blank c = last_blank c.args.self.now c.in-Some.running.now c.requires (grind arith)
