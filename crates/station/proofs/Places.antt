-- Where a frame above the stack starts, as the code adds it up over the places of the stack, from the lowest up: one place more adds its frame.
use Rattle.std.specs.Prelude.{◌≡◌, refl, List, [], ℕ, ◌+◌, ◌<◌, length, get_or}
use Rattle.rules.specs.Table.{Table, frame_of}
use Rattle.rules.specs.Memory.{frame_start}
use Rattle.station.specs.declared.Started.{Started}
use Rattle.station.proofs.View.{stack_up, stack_more}

-- Above nothing it starts at 0.
pub frames_none : (t : Table) → 0 ≡ frame_start t []
unfolding frame_start
frames_none t = refl

-- One place more.
pub frames_more : (t : Table) (m i : ℕ) (xs : List Started) (d : Started) → i < length xs
    → frame_start t (stack_up m (i + 1) xs) ≡ frame_start t (stack_up m i xs) + frame_of t (get_or xs i d).job.0
unfolding frame_start
frames_more t m i xs d l = rw (stack_more m i xs d l) refl
