-- The running job's frame: the last place that is counted is the top of the rules' stack, so the frame ends where all frames end, and starts
-- as many bytes before; and all frames together fit the stack size.
use Rattle.std.specs.Prelude.{◌≡◌, ◌≢◌, refl, true, false, List, [], ◌∷◌, map, reverse, ℕ, ◌+◌, ◌-◌, ◌≤◌, ◌<◌, length, take, Some, None, slice_get}
use Rattle.std.proofs.Common.{ap, ap₂, sym, subst, ◌∙◌, arith, eq-eqb, ne_eqb}
use Rattle.std.proofs.Math.Bool.{and-false}
use Rattle.std.proofs.lemmas.List.{nil_from_length, length-take, take_all}
use Rattle.std.proofs.lemmas.Option.{slice_get_within, get_or_from_slice_get}
use Rattle.rules.specs.Table.{Table, job_count, frame_of}
use Rattle.rules.specs.State as R
use Rattle.rules.specs.Memory.{frame_start}
use Rattle.rules.proofs.Order.{Live}
use Rattle.rules.proofs.Tables.{Good, good_table}
use Rattle.rules.proofs.Well.{All, all_map, live_all}
use Rattle.rules.proofs.Frames.{frames_fit}
use Rattle.table.specs.Arrays.{table_of}
use Rattle.station.specs.declared.Started.{Started}
use Rattle.station.specs.declared.State.{State}
use Rattle.station.specs.Arrays.{started_in, state_of}
use Rattle.station.specs.WellFormed.{well_formed}
use Rattle.station.specs.Frame.{Part, part_between, top_frame, running_part}
use Rattle.station.proofs.View.{stack_up, stack_more, none_at}
use Rattle.station.proofs.Parts.{formed}
use Rattle.station.proofs.Back.{stack_length}
use Rattle.station.proofs.Well.{well_active}

-- ---- no frame

-- A list with no last element.
empty : (fs : List Started) → None ≡ slice_get fs (length fs - 1) → fs ≡ []
empty fs e = nil_from_length fs (omega (arith, none_at fs (length fs - 1) e))

-- Nothing runs.
pub nothing_runs : (s : State) (fs : List Started) → fs ≡ take s.depth s.stack → None ≡ slice_get fs (length fs - 1)
    → top_frame (table_of s.table) (state_of s).stack ≡ part_between 0 0
nothing_runs s fs e h = ap (λ gs. top_frame (table_of s.table) (reverse (map (started_in s.table.resource_count) gs))) (sym e ∙ empty fs h)

-- 11, 10.
pub wrong_length : (s : State) (n : ℕ) → n ≢ s.table.size → running_part s n ≡ part_between 0 0
unfolding running_part
wrong_length s n h = simp (ne_eqb n s.table.size h, and-false)

pub not_formed : (s : State) (n : ℕ) → well_formed s ≡ false → running_part s n ≡ part_between 0 0
unfolding running_part
not_formed s n h = rw h refl

-- ---- the frame of the last place that is counted

module _ (s : State) (fs : List Started) (f : Started) (e : fs ≡ take s.depth s.stack) (h : Some f ≡ slice_get fs (length fs - 1)) where
  -- It is the top of the rules' stack.
  last_is_top : (state_of s).stack ≡ started_in s.table.resource_count f ∷ stack_up s.table.resource_count (length fs - 1) fs
  last_is_top =
      let m = s.table.resource_count in
      let l : length fs - 1 < length fs = slice_get_within fs (length fs - 1) f (sym h) in
      let n : length fs - 1 + 1 ≡ length fs = omega arith in
      ap (λ gs. reverse (map (started_in m) gs)) (sym e ∙ sym (take_all (length fs) fs (omega arith)))
      ∙ ap (λ k. stack_up m k fs) (sym n)
      ∙ stack_more m (length fs - 1) fs f l
      ∙ ap (λ g. started_in m g ∷ stack_up m (length fs - 1) fs) (get_or_from_slice_get fs (length fs - 1) f f (sym h))

  -- All frames, from the lowest up, and the last one.
  frames_are : frame_start (table_of s.table) (state_of s).stack
      ≡ frame_start (table_of s.table) (stack_up s.table.resource_count (length fs - 1) fs) + frame_of (table_of s.table) f.job.0
  unfolding frame_start
  frames_are = ap (frame_start (table_of s.table)) last_is_top

  -- So its frame is no longer than all of them ..
  pub frame_within : frame_of (table_of s.table) f.job.0 ≤ frame_start (table_of s.table) (state_of s).stack
  frame_within = omega (arith, frames_are)

  -- .. and lies between where the others end and where all end.
  pub frame_is : top_frame (table_of s.table) (state_of s).stack
      ≡ part_between (frame_start (table_of s.table) (state_of s).stack - frame_of (table_of s.table) f.job.0) (frame_start (table_of s.table) (state_of s).stack)
  frame_is =
      let t = table_of s.table in
      let fr = frame_of t f.job.0 in
      let end = frame_start t (state_of s).stack in
      let start : frame_start t (stack_up s.table.resource_count (length fs - 1) fs) ≡ end - fr = omega (arith, frames_are) in
      let long : fr ≡ end - (end - fr) = omega (arith, frames_are) in
      ap (top_frame t) last_is_top ∙ ap₂ (λ (a k : ℕ). record { start = a; length = k }) start long

  -- All frames fit: a job is started, so the table lists one.
  pub frames_within : well_formed s ≡ true → frame_start (table_of s.table) (state_of s).stack ≤ s.table.size
  frames_within w =
      let some : length fs - 1 < length fs = slice_get_within fs (length fs - 1) f (sym h) in
      frames_fit (table_of s.table) (state_of s) (well_active s w (omega (arith, ap length e, length-take s.depth s.stack)))

-- ---- the running job's frame is the one on top, where the state and the memory's length are right

pub running_top : (s : State) (n : ℕ) → well_formed s ≡ true → n ≡ s.table.size → running_part s n ≡ top_frame (table_of s.table) (state_of s).stack
unfolding running_part
running_top s n w l = simp (w, eq-eqb n s.table.size l) refl

-- A frame is never of length 0: the running job is listed, and a listed job's frame has some bytes.
some_frame : (t : Table) (fs : List R.Started) → 0 < length fs → Good t → All (λ (f : R.Started). f.entry.who < job_count t) fs → 0 < (top_frame t fs).length
some_frame t [] l g h = absurd (omega arith)
some_frame t (f ∷ fs) l g h = g.framed f.entry.who h.0

pub frame_some : (s : State) (n : ℕ) → well_formed s ≡ true → n ≡ s.table.size → 0 < s.depth → 0 < (running_part s n).length
frame_some s n w l d =
    let t = table_of s.table in
    let k = well_active s w (omega arith) in
    let long : length (state_of s).stack ≡ s.depth = stack_length s (formed s w).padding in
    let h = all_map (λ (f : R.Started). Live t (state_of s) f.entry) (λ (f : R.Started). f.entry.who < job_count t) (λ f x. x.listed)
    (state_of s).stack (live_all t (state_of s) k).0 in
    subst (λ (p : Part). 0 < p.length) (sym (running_top s n w l))
    (some_frame t (state_of s).stack (omega (arith, long)) (good_table t k.table) h)
