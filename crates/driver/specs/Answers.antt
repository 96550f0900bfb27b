-- What the exported functions answer and leave, by the definitions of the layers below.
use Rattle.std.specs.Prelude.{List, ℕ, length, Result, Ok, Err}
use Rattle.std.proofs.Math.Option as maybe
use Rattle.rules.specs.State.{fresh}
use Rattle.rules.specs.Events.{Event}
use Rattle.table.specs.Arrays as T
use Rattle.tagged_table.specs.Form as Tables
use Rattle.tagged_event.specs.Form as Events
use Rattle.station.specs.declared.State.{State}
use Rattle.station.specs.Arrays.{arrays_of}
use Rattle.station.specs.Applying.{answer, state_after, memory_after}
use Rattle.station.specs.Frame.{Part, no_part, running_part}
use Rattle.state_form.specs.Form.{state_bytes, put_answer, put_out, get_answer}

-- ---- a table

-- The bytes that a table takes, or the refusal.
abbrev pub table_bytes_taken : Tables.Reading → Result ℕ ℕ
table_bytes_taken (Ok x) = Ok x.0
table_bytes_taken (Err e) = Err e.0

-- Where its reading stopped: at the refused field, or else behind the table.
abbrev pub stopped_at : Tables.Reading → ℕ
stopped_at (Ok x) = x.0
stopped_at (Err e) = e.1

-- Storing the fresh state of the table that was read, into a buffer of n bytes: the refusal of the reading, then 6; 0 if it is stored.
abbrev pub fresh_answer : Tables.Reading → ℕ → ℕ
fresh_answer (Ok x) n = put_answer n
fresh_answer (Err e) n = e.0

-- The buffer afterwards.
abbrev pub fresh_out : Tables.Reading → List ℕ → List ℕ
fresh_out (Ok x) out = put_out (arrays_of (T.arrays_of x.1) fresh) out
fresh_out (Err e) out = out

-- ---- a state in bytes

-- What is said of the state that was read, or the refusal of its bytes.
abbrev pub said_of : {A : Type 0} → Result State ℕ → (State → Result A ℕ) → Result A ℕ
said_of (Ok s) f = f s
said_of (Err e) f = Err e

-- The running job's frame in a stack memory of n bytes; length 0 for bytes that are refused.
abbrev pub frame_of : Result State ℕ → ℕ → Part
frame_of (Ok s) n = running_part s n
frame_of (Err e) n = no_part

-- ---- an event

-- What applying an event answers, and the bytes of the state and the stack memory that it leaves.
pub record Applied : Type 0 where
  pub answer : Result (maybe.Option ℕ) ℕ
  pub state : List ℕ
  pub memory : List ℕ

-- A refusal changes no byte.
abbrev pub refused_with : ℕ → List ℕ → List ℕ → Applied
refused_with n bytes memory = record { answer = Err n; state = bytes; memory = memory }

-- The new bytes where the event was accepted, or else the old ones.
abbrev pub if_accepted : Result (maybe.Option ℕ) ℕ → List ℕ → List ℕ → List ℕ
if_accepted (Ok j) new old = new
if_accepted (Err e) new old = old

-- An event applied to the state that was read from some bytes ..
abbrev pub applied_to : Result State ℕ → Event → List ℕ → List ℕ → Applied
applied_to (Ok s) e bytes memory =
    record {
      answer = answer s (length memory) e;
      state = if_accepted (answer s (length memory) e) (state_bytes (state_after s (length memory) e)) bytes;
      memory = memory_after s memory e;
    }
applied_to (Err n) e bytes memory = refused_with n bytes memory

-- .. and so the event that was read, if one could be.
abbrev pub applied : Events.Reading → List ℕ → List ℕ → Applied
applied (Ok x) bytes memory = applied_to (get_answer bytes) x.0 bytes memory
applied (Err e) bytes memory = refused_with e.0 bytes memory
