-- The lemma of Changes: the running job leaves the last place that is counted.
use Rattle.std.proofs.Common.{◌-◌, arith}
use Rattle.station.proofs.Parts.{formed}
use Rattle.station.proofs.Changes.{left}
use Rattle.station.proofs.State.leave.Goals as goal

pub bounds-self-top : goal.bounds-self-top
bounds-self-top c = omega (arith, (formed c.args.self.now c.requires.well_formed).padding.depth_fits)

pub returns : goal.returns
returns c =
    rw c.default.ensures (left c.args.self.now c.requires.well_formed (c.from-top.result - 1) (omega (arith, c.from-top.ensures)))
