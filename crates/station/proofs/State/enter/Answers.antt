-- The lemmas of Entering: the place of one who comes in is within the waiting jobs, so there is room; what the rotation and the store leave.
use Rattle.std.proofs.Common.{◌<◌, sym, arith}
use Rattle.rules.specs.Limits.{max_jobs}
use Rattle.station.proofs.Parts.{formed}
use Rattle.station.proofs.Back.{counted}
use Rattle.station.proofs.Entering.{rotated, entered}
use Rattle.station.proofs.State.enter.Goals as goal

pub bounds-self-at : goal.bounds-self-at
bounds-self-at c =
    let s = c.args.self.now in
    omega (arith, c.place_of-at.ensures.within, c.requires.room, counted s c.requires.well_formed)

pub returns : goal.returns
returns c =
    let s = c.args.self.now in
    let i = c.place_of-at.result in
    let b = (formed s c.requires.well_formed).padding in
    let here : i < max_jobs = omega (arith, c.place_of-at.ensures.within, c.requires.room, counted s c.requires.well_formed) in
    rw (rotated i max_jobs s.waiting c.rotate_right.new.self c.args.job (sym b.waiting_length) here c.rotate_right.ensures.after)
    (entered s c.requires.well_formed i c.args.job c.requires.room c.place_of-at.ensures.within c.place_of-at.ensures.place)
