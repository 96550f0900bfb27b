-- The lemmas of RunningFrame, at each return.
use Rattle.std.proofs.Common.{◌∙◌, arith, rules}
use Rattle.station.proofs.RunningFrame.{wrong_length, not_formed, running_top}
use Rattle.station.proofs.State.running_bytes.Goals as goal
use Rattle.station.proofs.State.running_bytes.Goals.{then-size-from-via-then-size-from, then-size-from-via-else-size-from+then-not-is_well_formed}

pub returns-then-size-from-clause-part : goal.returns-then-size-from-clause-part
returns-then-size-from-clause-part c =
    elim c.then-size-from.branch [
      | then-size-from-via-then-size-from w ↦ wrong_length c.args.self.now c.args.size (rw c.from.ensures at w.if-size-from.true)
      | then-size-from-via-else-size-from+then-not-is_well_formed w ↦ not_formed c.args.self.now c.args.size (search rules)
    ]

pub returns-clause-within : goal.returns-clause-within
returns-clause-within c = (c.top_bytes.ensures.within.0, omega (arith, c.top_bytes.ensures.within.1, c.if-size-from.false, c.from.ensures))

pub returns-clause-part : goal.returns-clause-part
returns-clause-part c = running_top c.args.self.now c.args.size (search rules) (search rules) ∙ c.top_bytes.ensures.part
