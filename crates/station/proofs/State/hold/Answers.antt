-- The lemma of Changes: the last place that is counted, with other units of one resource.
use Rattle.std.proofs.Common.{◌-◌, arith}
use Rattle.station.proofs.Parts.{formed}
use Rattle.station.proofs.Changes.{hold_moved}
use Rattle.station.proofs.State.hold.Goals as goal

pub bounds-self-top : goal.bounds-self-top
bounds-self-top c = omega (arith, (formed c.args.self.now c.requires.well_formed).padding.depth_fits)

pub returns : goal.returns
returns c =
    hold_moved c.args.self.now c.requires.well_formed (c.from-top.result - 1) (omega (arith, c.from-top.ensures)) c.args.resource c.args.units c.requires.listed
