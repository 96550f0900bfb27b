-- The premises hold of the rules' table, the case of demand 3 (b) occurs in its log, and 18 is answered in a state made by hand: so
-- none of the statements is empty.
use Rattle.std.specs.Prelude.{◌≡◌, refl, true, [], ◌∷◌, ℕ, ◌+◌, ◌-◌, get_or}
use Rattle.std.proofs.Common.{subst, lit≤, arith}
use Rattle.rules.specs.Choice.{first_bad}
use Rattle.rules.specs.Counting.{max_below, sum_below, every_below, total, every, none_above, contains, each_once}
use Rattle.rules.specs.Table.{worst, table_refusal}
use Rattle.rules.specs.State.{State, held_in}
use Rattle.rules.specs.Ceilings.{ceiling, resource_ceiling, system_ceiling}
use Rattle.rules.specs.Waiting.{sooner, insert}
use Rattle.rules.specs.Start.{starts, start_test}
use Rattle.rules.specs.Events.{Event, acquire, finish, refusal, applied, after}
use Rattle.rules.specs.Run.{moment}
use Rattle.rules.specs.WellFormed.{levels_rise, in_order, well_formed}
use Rattle.rules.specs.Demand3.{is_waiting, WaitsThrough, lower_runs, OneHolder}
use Rattle.rules.specs.Examples.{station, log}
use Rattle.rules.proofs.Counts.{every_below_at}
use Rattle.rules.proofs.Demand.{demand_3}

-- the rules' table could be written
pub station_written : table_refusal (station 90) ≡ 0
unfolding first_bad max_below sum_below every none_above worst table_refusal
station_written = refl

-- the rules' log, as a sequence
pub events : ℕ → Event
events i = get_or log i (finish 0)

-- job 1 waits from moment 3 to moment 8, and at both a job of lower level runs, job 0
pub case_waits : WaitsThrough (station 90) events 1 3 8
unfolding events moment every_below first_bad max_below total contains held_in ceiling resource_ceiling system_ceiling sooner insert starts start_test refusal applied after
case_waits m x y =
    let z : 3 + (m - 3) ≡ m = omega arith in
    subst (λ (n : ℕ). is_waiting (moment (station 90) events n) 1 ≡ true) z
    (every_below_at 6 (λ i. is_waiting (moment (station 90) events (3 + i)) 1) refl (m - 3) (omega arith))

pub case_first : lower_runs (station 90) (moment (station 90) events 3).stack 1 ≡ true
unfolding events moment first_bad max_below total contains held_in ceiling resource_ceiling system_ceiling sooner insert starts start_test refusal applied after
case_first = refl

pub case_last : lower_runs (station 90) (moment (station 90) events 8).stack 1 ≡ true
unfolding events moment first_bad max_below total contains held_in ceiling resource_ceiling system_ceiling sooner insert starts start_test refusal applied after
case_last = refl

-- so demand 3 gives the one that holds it back
pub case_holder : OneHolder (station 90) events 3 8
case_holder = (demand_3 (station 90) station_written events).blocked_once 1 3 8 (lit≤ tt) case_waits case_first case_last

-- a state made by hand: job 0 holds all 4 units, and job 1 has been started above it, which the start test would not do
abbrev pub hand_made : State
hand_made =
    record {
      stack = record { entry = record { who = 1 }; held = 0 ∷ [] } ∷ record { entry = record { who = 0 }; held = 4 ∷ [] } ∷ [];
      waiting = [];
    }

-- it is well formed, and yet job 1, which asks within its need, is told that too few units are free
pub hand_made_well_formed : well_formed (station 90) hand_made ≡ true
unfolding first_bad max_below sum_below every_below every none_above contains each_once worst table_refusal held_in levels_rise in_order well_formed
hand_made_well_formed = refl

pub hand_made_18 : refusal (station 90) hand_made (acquire 1 0 1) ≡ 18
unfolding first_bad held_in refusal
hand_made_18 = refl
