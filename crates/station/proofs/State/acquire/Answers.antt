-- A refusal of the tests that all events of the running job share stands for all tests, and a listed resource has its place.
use Rattle.std.specs.Prelude.{◌≡◌}
use Rattle.std.proofs.Common.{arith}
use Rattle.rules.specs.Events.{acquire, refusal}
use Rattle.table.specs.Arrays.{table_of}
use Rattle.table.specs.Refusals.{number_of}
use Rattle.station.specs.Arrays.{state_of}
use Rattle.station.proofs.Refusing.{running_refuses, amount_fits}
use Rattle.station.proofs.State.acquire.Goals as goal

pub returns-in_err-running-clause-answer : goal.returns-in_err-running-clause-answer
unfolding refusal
returns-in_err-running-clause-answer c =
    let s = c.args.self.now in
    let q : number_of c.in_err-running.field-0.0 ≡ refusal (table_of s.table) (state_of s) (acquire c.args.job.0 c.args.resource c.args.amount) =
    running_refuses (table_of s.table) (state_of s) c.args.job.0 c.in_err-running.field-0.0 _ c.in_err-running.ensures.refused in
    grind arith

pub bounds-running-resource : goal.bounds-running-resource
bounds-running-resource c = rw c.from-resource.ensures (amount_fits c.args.self.now c.args.resource c.args.amount c.requires (grind arith))
