-- The lemma of Changes: the last place that is counted, with nothing held. The length of the units is known from their type.
use Rattle.std.proofs.Common.{◌-◌, arith, rules}
use Rattle.station.proofs.Parts.{formed}
use Rattle.station.proofs.Changes.{nothing_moved}
use Rattle.station.proofs.State.hold_nothing.Goals as goal

pub bounds-self-top : goal.bounds-self-top
bounds-self-top c = omega (arith, (formed c.args.self.now c.requires.well_formed).padding.depth_fits)

pub returns : goal.returns
returns c =
    nothing_moved c.args.self.now c.requires.well_formed (c.from-top.result - 1) (omega (arith, c.from-top.ensures)) (search rules)
