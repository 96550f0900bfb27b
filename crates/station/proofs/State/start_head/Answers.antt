-- The lemma of Changes: the head goes to the first place past the stack, and those behind it one place further to the front.
use Rattle.std.proofs.Common.{◌-◌, arith, rules}
use Rattle.station.proofs.Changes.{head_started}
use Rattle.station.proofs.State.start_head.Goals as goal

pub returns : goal.returns
returns c =
    rw (c.from.ensures, c.rotate_left.ensures.after)
    (head_started c.args.self.now c.requires.well_formed (c.args.self.now.waiting_count - 1) (omega arith) c.requires.room (search rules))
