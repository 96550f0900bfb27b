-- docs/RULES.md, "Rules of the policy": the place of each frame, and what a start does to the stack memory.
use Rattle.std.specs.Prelude.{List, [], ◌∷◌, ◌++◌, ℕ, ◌+◌, take, drop, replicate}
use Rattle.rules.specs.Choice.{pick}
use Rattle.rules.specs.Table.{Table, frame_of, room_of}
use Rattle.rules.specs.State.{Started, State}
use Rattle.rules.specs.Events.{Event, after, starts_after}

-- A frame starts at the byte after the frame below it, the lowest at 0: where a frame above the stack fs starts.
unfoldable pub frame_start : Table → List Started → ℕ
frame_start t [] = 0
frame_start t (f ∷ fs) = frame_start t fs + room_of t f.entry.who

-- n bytes from a on become zero; every other byte stays.
abbrev pub cleared : ℕ → ℕ → List ℕ → List ℕ
cleared a n m = take a m ++ (replicate n 0 ++ drop (a + n) m)

-- The frame of the running job becomes zero.
abbrev pub cleared_frame : Table → List Started → List ℕ → List ℕ
cleared_frame t [] m = m
cleared_frame t (f ∷ fs) m = cleared (frame_start t fs) (frame_of t f.entry.who) m

-- On a start, the bytes of the new frame become zero; an event that starts nothing changes none of the stack memory.
unfoldable pub memory_after : Table → State → Event → List ℕ → List ℕ
memory_after t s e m = pick (starts_after t s e) (cleared_frame t (after t s e).stack m) m
