-- 18 is met in a state made by hand: it is well formed, and yet its running job, which asks within its need, is told that too few units are free.
-- By demand 3 no sequence of events from a fresh state comes there.
use Rattle.std.specs.Prelude.{◌≡◌, ◌≢◌, ℕ, refl, true}
use Rattle.std.proofs.Common.{ap, sym, ◌∙◌}
use Rattle.rules.specs.Choice.{first_bad}
use Rattle.rules.specs.Counting.{max_below, sum_below, every, none_above}
use Rattle.rules.specs.Table.{worst}
use Rattle.rules.specs.Events.{acquire}
use Rattle.rules.specs.Events as R
use Rattle.rules.specs.Run.{moment}
use Rattle.rules.specs.Examples as Rules
use Rattle.rules.proofs.Premises.{station_written, hand_made, hand_made_well_formed, hand_made_18}
use Rattle.rules.proofs.Enough.{enough}
use Rattle.rules.proofs.Well.{well_parts}
use Rattle.table.specs.declared.Table.{Table}
use Rattle.table.specs.Arrays as T
use Rattle.table.specs.Judging.{table_judged}
use Rattle.station.specs.declared.State.{State}
use Rattle.station.specs.Arrays.{state_of, arrays_of, fresh_state, Roomy}
use Rattle.station.specs.Sequence.{Sequence}
use Rattle.station.specs.WellFormed.{well_formed}
use Rattle.station.specs.Applying.{refusal}
use Rattle.station.proofs.Well.{well_back, arrays_well}
use Rattle.station.proofs.Refused.{refused_event}
use Rattle.station.proofs.Moments.{events_in, view_is}

-- The rules' table in arrays.
pub station : Table
station = T.arrays_of (Rules.station 90)

-- It could be written.
station_judged : table_judged station ≡ 0
unfolding station table_judged first_bad max_below sum_below every none_above worst
station_judged = refl

-- Job 0 holds all 4 units, and job 1 has been started above it, which the start test would not do.
pub station_by_hand : State
station_by_hand = arrays_of station hand_made

pub by_hand_well_formed : well_formed station_by_hand ≡ true
unfolding station station_by_hand
by_hand_well_formed = arrays_well station hand_made station_judged refl (well_parts (Rules.station 90) hand_made hand_made_well_formed)

-- Job 1 asks for one unit of resource 0, of which it needs up to 3.
pub by_hand_18 : refusal station_by_hand 90 (acquire 1 0 1) ≡ 18
unfolding station station_by_hand
by_hand_18 =
    refused_event station_by_hand 90 (acquire 1 0 1) by_hand_well_formed refl
    ∙ ap (λ s. R.refusal (Rules.station 90) s (acquire 1 0 1))
    (well_back station hand_made station_judged refl (well_parts (Rules.station 90) hand_made hand_made_well_formed))
    ∙ hand_made_18

-- So no sequence of events from its fresh state comes there: at a moment of the rules 18 is never answered.
pub never_reached : (q : Sequence (fresh_state station)) (m : ℕ) → q.states m ≢ station_by_hand
unfolding station station_by_hand
never_reached q m e =
    let r : Roomy station = record { units = refl; jobs = refl } in
    let k : moment (Rules.station 90) (events_in station q) m ≡ hand_made =
    sym (view_is station r station_judged q m) ∙ ap state_of e
    ∙ well_back station hand_made station_judged refl (well_parts (Rules.station 90) hand_made hand_made_well_formed) in
    enough (Rules.station 90) station_written (events_in station q) m (acquire 1 0 1) (ap (λ s. R.refusal (Rules.station 90) s (acquire 1 0 1)) k ∙ hand_made_18)
