-- docs/RULES.md, "Refusal numbers", last paragraph: the running job's frame as a part of the stack memory.
use Rattle.std.specs.Prelude.{◌≡◌, ◌&&◌, List, [], ◌∷◌, ◌++◌, ℕ, ◌+◌, ◌-◌, length, take, drop, eqb}
use Rattle.std.specs.Borrow.{Lends, MutBor, Fml, Array, u8}
use Rattle.rules.specs.Choice.{pick}
use Rattle.rules.specs.Table.{Table, frame_of}
use Rattle.rules.specs.State.{Started}
use Rattle.rules.specs.Memory.{frame_start}
use Rattle.table.specs.Arrays.{table_of}
use Rattle.station.specs.declared.State.{State}
use Rattle.station.specs.Arrays.{state_of}
use Rattle.station.specs.WellFormed.{well_formed}

-- Where a part of the stack memory starts, and its length.
pub record Part : Type 0 where
  pub start : ℕ
  pub length : ℕ

-- The part of length 0.
abbrev pub no_part : Part
no_part = record { start = 0; length = 0 }

-- The part from byte a up to byte b.
abbrev pub part_between : ℕ → ℕ → Part
part_between a b = record { start = a; length = b - a }

-- The frame of the running job: from the byte after the frames below it on.
abbrev pub top_frame : Table → List Started → Part
top_frame t [] = no_part
top_frame t (f ∷ fs) = record { start = frame_start t fs; length = frame_of t f.entry.who }

-- The running job's frame in a stack memory of n bytes; length 0 if the state gives 10 or 11, or nothing runs.
unfoldable pub running_part : State → ℕ → Part
running_part s n = pick (well_formed s && eqb n s.table.size) (top_frame (table_of s.table) (state_of s).stack) no_part

-- The bytes of a part.
abbrev pub part_of : Part → List ℕ → List ℕ
part_of p m = take p.length (drop p.start m)

-- The memory with other bytes in a part; every byte outside of it stays.
abbrev pub with_part : Part → List ℕ → List ℕ → List ℕ
with_part p m bytes = take p.start m ++ (bytes ++ drop (p.start + p.length) m)

-- A slice is that part of the memory, by content and by address.
pub record IsPart (p : Part) (memory part : MutBor (List ℕ)) : Type 0 where
  pub bytes : part.now ≡ part_of p memory.now
  pub address : part.ref_ptr ≡ (memory.ref_ptr.0, p.start + memory.ref_ptr.1)

-- What a caller writes through the part stands there in the memory, and every byte outside of it stays.
abbrev pub LendsPart : Part → MutBor (List ℕ) → MutBor (List ℕ) → Fml
LendsPart p memory part = Lends (Array u8 0) (Array u8 0) memory part (with_part p memory.now)

-- The frame is lent as a part of the memory.
abbrev pub LendsFrame : State → MutBor (List ℕ) → MutBor (List ℕ) → Fml
LendsFrame s memory frame = LendsPart (running_part s (length memory.now)) memory frame
