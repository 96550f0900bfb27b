-- The frames of a well-formed state never add up to more than the worst stack, so within the stack size: levels rise up the stack, so they
-- are at different levels.
use Rattle.std.specs.Prelude.{◌≡◌, true, List, [], ◌∷◌, ℕ, suc, ◌≤◌, ◌<◌, eqb}
use Rattle.std.proofs.Common.{zero-le, le_trans, arith, ltb-true}
use Rattle.std.proofs.lemmas.Bool.{and_parts}
use Rattle.std.proofs.lemmas.Bool.Decides.{nat_tests}
use Rattle.rules.specs.Limits.{max_level}
use Rattle.rules.specs.Choice.{pick}
use Rattle.rules.specs.Counting.{sum_below}
use Rattle.rules.specs.Table.{Table, job_count, level_of, room_of, largest_at, worst, table_refusal}
use Rattle.rules.specs.State.{Started, State, level_at}
use Rattle.rules.specs.Events.{Event}
use Rattle.rules.specs.Run.{moment}
use Rattle.rules.specs.Memory.{frame_start}
use Rattle.rules.specs.WellFormed.{levels_rise}
use Rattle.rules.proofs.Counts.{le_max_below, sum_below_mono}
use Rattle.rules.proofs.Tables.{good_table}
use Rattle.rules.proofs.Order.{Live}
use Rattle.rules.proofs.Well.{Well, All, live_all}
use Rattle.rules.proofs.Kept.{well_moment}

-- a job's frame is no larger than the largest at its level
frame_largest : (t : Table) (j : ℕ) → j < job_count t → room_of t j ≤ largest_at t (level_of t j)
frame_largest t j l = grind (arith, nat_tests, le_max_below (job_count t) (λ k. pick (eqb (level_of t k) (level_of t j)) (room_of t k) 0) j l)

-- the frames up to one at level l, against the largest at each level up to l
frames_below : (t : Table) (s : State) (f : Started) (fs : List Started) → levels_rise t (f ∷ fs) ≡ true → All (λ f. Live t s f.entry) (f ∷ fs)
    → frame_start t (f ∷ fs) ≤ sum_below (suc (level_at t f.entry)) (largest_at t)
unfolding frame_start sum_below levels_rise
frames_below t s f [] h l = omega (arith, frame_largest t f.entry.who l.0.listed)
frames_below t s f (g ∷ gs) h l =
    let p = and_parts _ _ h in
    let above : level_at t g.entry < level_at t f.entry = ltb-true _ _ p.0 in
    omega (
      arith,
      frame_largest t f.entry.who l.0.listed,
      frames_below t s g gs p.1 l.1,
      sum_below_mono (largest_at t) (suc (level_at t g.entry)) (level_at t f.entry) above,
    )

pub frames_worst : (t : Table) (s : State) → Well t s → frame_start t s.stack ≤ worst t
frames_worst t s w = go s.stack w.rising (live_all t s w).0
  where
    go : (fs : List Started) → levels_rise t fs ≡ true → All (λ f. Live t s f.entry) fs → frame_start t fs ≤ worst t
    go [] h l = unfold frame_start in zero-le
    go (f ∷ fs) h l =
        unfold worst in le_trans (frames_below t s f fs h l)
        (let m = (good_table t w.table).low f.entry.who l.0.listed in
        sum_below_mono (largest_at t) (suc (level_at t f.entry)) (suc max_level) (omega (arith, m)))

-- so a frame always fits
pub frames_fit : (t : Table) (s : State) → Well t s → frame_start t s.stack ≤ t.size
frames_fit t s w = le_trans (frames_worst t s w) (good_table t w.table).deep

pub every_moment_fits : (t : Table) → table_refusal t ≡ 0 → (es : ℕ → Event) (m : ℕ) → frame_start t (moment t es m).stack ≤ worst t
every_moment_fits t h es m = frames_worst t (moment t es m) (well_moment t h es m)
