-- The array of a job's needs has a place for each listed resource.
use Rattle.std.proofs.Common.{arith}
use Rattle.station.proofs.Refusing.{listed_fits}
use Rattle.station.proofs.State.need_of.Goals as goal

pub offset_bounds-listed-resource : goal.offset_bounds-listed-resource
offset_bounds-listed-resource c = let l = listed_fits c.args.self.now c.args.resource c.requires.well_formed c.requires.listed in grind arith

pub bounds-listed-resource : goal.bounds-listed-resource
bounds-listed-resource c = listed_fits c.args.self.now c.args.resource c.requires.well_formed c.requires.listed
