-- The rules' example: its table and log, and the thirteen rows that are proved from the definitions, in one table under one claim.
use Rattle.std.specs.Prelude.{◌≡◌, List, [], ◌∷◌, ℕ, ◌-◌, get_or}
use Rattle.std.proofs.Math.Option.{Option, none, some}
use Rattle.rules.specs.Table.{Table, table_refusal}
use Rattle.rules.specs.State.{fresh}
use Rattle.rules.specs.Ceilings.{ceiling}
use Rattle.rules.specs.Events.{Event, arrive, acquire, release, finish, release_all}
use Rattle.rules.specs.Run.{Line, lines}

-- One resource of 4 units; job 0 level 10, frame 40, need 4; job 1 level 20, frame 30, need 3; job 2 level 30, frame 20, need 1.
abbrev pub station : ℕ → Table
station size =
    record {
      size = size;
      units = 4 ∷ [];
      jobs =
          record { level = 10; frame = 40; needs = 4 ∷ [] }
          ∷ record { level = 20; frame = 30; needs = 3 ∷ [] }
          ∷ record { level = 30; frame = 20; needs = 1 ∷ [] }
          ∷ [];
    }

-- Its eleven events.
abbrev pub log : List Event
log =
    arrive 0
    ∷ acquire 0 0 2
    ∷ arrive 1
    ∷ arrive 2
    ∷ acquire 2 0 1
    ∷ finish 2
    ∷ release 2 0 1
    ∷ finish 2
    ∷ release 0 0 1
    ∷ acquire 1 0 3
    ∷ arrive 0
    ∷ []

-- What a row speaks of: a ceiling, an event's line, or the answer to a table.
pub data Value : Type 0 where
  ceiling_of : ℕ → Value
  line_of : Line → Value
  answer_of : ℕ → Value

-- A row: what the definitions give, and what the document says.
pub record Row : Type 0 where
  pub given : Value
  pub said : Value

-- The ceiling of the resource with v free.
abbrev free : ℕ → ℕ → Row
free v c = record { given = ceiling_of (ceiling (station 90) 0 v); said = ceiling_of c }

abbrev pub no_line : Line
no_line = record { answer = 0; started = none; runs = none; ceiling = 0; waiting = 0; word = 0 }

-- Event n of the log, numbered from 1: answer, job started, job running, system ceiling, number waiting, waiting word.
abbrev event : ℕ → ℕ → Option ℕ → Option ℕ → ℕ → ℕ → ℕ → Row
event n a s r c w b =
    record {
      given = line_of (get_or (lines (station 90) fresh log) (n - 1) no_line);
      said = line_of (record { answer = a; started = s; runs = r; ceiling = c; waiting = w; word = b });
    }

-- The answer to the table with that stack size.
abbrev sized : ℕ → ℕ → Row
sized n a = record { given = answer_of (table_refusal (station n)); said = answer_of a }

abbrev pub examples : List Row
examples =
    free 4 0
    ∷ free 3 10
    ∷ free 2 20
    ∷ free 1 20
    ∷ free 0 30
    ∷ event 3 0 none (some 0) 20 1 2
    ∷ event 4 0 (some 2) (some 2) 30 1 2
    ∷ event 6 20 none (some 2) 30 1 2
    ∷ event 8 0 none (some 0) 20 1 2
    ∷ event 9 0 (some 1) (some 1) 20 0 0
    ∷ event 11 13 none (some 1) 30 0 0
    ∷ sized 90 0
    ∷ sized 89 5
    ∷ []

-- Of every row: the value given is the value said.
abbrev pub AllAsSaid : List Row → Type 0
AllAsSaid [] = Unit {0}
AllAsSaid (r ∷ rs) = (r.given ≡ r.said) × AllAsSaid rs

-- ---- release all

-- Two resources of one unit; job 0 needs both, job 1 the second, job 2 the first.
abbrev pub pair : Table
pair =
    record {
      size = 3;
      units = 1 ∷ 1 ∷ [];
      jobs =
          record { level = 10; frame = 1; needs = 1 ∷ 1 ∷ [] }
          ∷ record { level = 20; frame = 1; needs = 0 ∷ 1 ∷ [] }
          ∷ record { level = 30; frame = 1; needs = 1 ∷ 0 ∷ [] }
          ∷ [];
    }

-- Job 0 takes both, jobs 1 and 2 wait for it, it gives both back at once, and job 2 finishes.
abbrev pub pair_log : List Event
pair_log = arrive 0 ∷ acquire 0 0 1 ∷ acquire 0 1 1 ∷ arrive 1 ∷ arrive 2 ∷ release_all 0 ∷ finish 2 ∷ []

-- ---- equal levels

-- Two jobs at level 10, one at level 20.
abbrev pub shared : Table
shared =
    record {
      size = 70;
      units = [];
      jobs =
          record { level = 20; frame = 30; needs = [] }
          ∷ record { level = 10; frame = 40; needs = [] }
          ∷ record { level = 10; frame = 25; needs = [] }
          ∷ [];
    }
