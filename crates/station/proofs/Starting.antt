-- A start: there is room for the head, since no more jobs are active than are listed; and the system ceiling that the start leaves is the head's
-- level, since the new job holds nothing and its level was above the ceiling before.
use Rattle.std.specs.Prelude.{◌≡◌, refl, true, false, List, [], ◌∷◌, ℕ, ◌≤◌, ◌<◌, length, map, take, drop, Option, Some, None}
use Rattle.std.specs.List.{slice_get}
use Rattle.std.proofs.Common.{ap, sym, ◌∙◌, arith, le_antisymm, lt-ltb, option_copied, Bor}
use Rattle.std.proofs.lemmas.List.{nil_from_length}
use Rattle.std.proofs.lemmas.Bool.Decides.{nat_tests}
use Rattle.rules.specs.Limits.{max_jobs}
use Rattle.rules.specs.Table.{Table, resource_count, level_of}
use Rattle.rules.specs.State.{Entry, Started, State, put, level_at, held_in}
use Rattle.rules.specs.Ceilings.{resource_ceiling, system_ceiling}
use Rattle.rules.specs.Start.{starts, newly_started, with_start, start_test}
use Rattle.rules.proofs.Counts.{zeros_at}
use Rattle.rules.proofs.Ceilings.{resource_ceiling_mono}
use Rattle.table.specs.declared.JobNo.{JobNo}
use Rattle.table.specs.Arrays.{table_of}
use Rattle.station.specs.declared.State as Arrays
use Rattle.station.specs.Arrays.{entry_of, state_of, arrays_of}
use Rattle.station.specs.WellFormed.{well_formed}
use Rattle.station.proofs.View.{none_at}
use Rattle.station.proofs.Back.{counted, state_back}
use Rattle.station.proofs.Room.{room}

-- A job that holds nothing takes no units.
new_held : (t : Table) (k : Entry) (fs : List Started) (r : ℕ) → held_in (newly_started t k ∷ fs) r ≡ held_in fs r
unfolding held_in
new_held t k fs r = omega (arith, zeros_at (resource_count t) r)

-- So it changes no ceiling.
same_ceiling : (t : Table) (k : Entry) (fs : List Started) → resource_ceiling t (newly_started t k ∷ fs) ≡ resource_ceiling t fs
same_ceiling t k fs =
    le_antisymm
    (resource_ceiling_mono t (newly_started t k ∷ fs) fs (λ r l. omega (arith, new_held t k fs r)))
    (resource_ceiling_mono t fs (newly_started t k ∷ fs) (λ r l. omega (arith, new_held t k fs r)))

-- The system ceiling after a start.
ceiling_started : (t : Table) (fs : List Started) (k : Entry) (ks : List Entry) → starts t fs (k ∷ ks) ≡ true
    → system_ceiling t (newly_started t k ∷ fs) ≡ level_at t k
unfolding starts system_ceiling
ceiling_started t fs k ks h = rw (same_ceiling t k fs) (grind (arith, nat_tests))

-- ---- whether the head starts

-- The first of a list, as it is read.
pub none_first : {A : Type 0} (xs : List A) → None ≡ slice_get xs 0 → xs ≡ []
none_first xs e = nil_from_length xs (omega (arith, none_at xs 0 e))

head_first : {A : Type 0} (x : A) (xs : List A) → Some x ≡ slice_get xs 0 → xs ≡ x ∷ drop 1 xs
head_first x [] e = grind arith
head_first x (y ∷ ys) e = grind arith

-- Nobody waits.
pub none_starts : (t : Table) (fs : List Started) (ks : List Entry) → ks ≡ [] → starts t fs ks ≡ false
unfolding starts
none_starts t fs ks e = rw e refl

-- The head that is read from the arrays is the head of the rules' state.
pub head_waits : (s : Arrays.State) (ws : List JobNo) (o : Option (Bor JobNo)) (x : Bor JobNo) → ws ≡ take s.waiting_count s.waiting
    → option_copied o ≡ slice_get ws 0 → o ≡ Some x → (state_of s).waiting ≡ entry_of x.now ∷ map entry_of (drop 1 ws)
head_waits s ws o x e f h = ap (map entry_of) (sym e ∙ head_first x.now ws (sym (ap option_copied h) ∙ f))

-- It stays where its level is not above the system ceiling.
pub head_stays : (t : Table) (fs : List Started) (k : Entry) (ks ls : List Entry) → ls ≡ k ∷ ks → level_at t k ≤ system_ceiling t fs
    → starts t fs ls ≡ false
unfolding starts
head_stays t fs k ks ls e l = rw e (grind (arith, nat_tests))

-- It starts where its level is above.
head_starts : (t : Table) (fs : List Started) (k : Entry) (ks ls : List Entry) → ls ≡ k ∷ ks → system_ceiling t fs < level_at t k
    → starts t fs ls ≡ true
unfolding starts
head_starts t fs k ks ls e l = rw e (lt-ltb _ _ l)

-- Job j is the head, and starts.
pub record Starts (s : Arrays.State) (j : JobNo) : Type 0 where
  pub rest : List Entry
  pub waits : (state_of s).waiting ≡ entry_of j ∷ rest
  pub test : starts (table_of s.table) (state_of s).stack (state_of s).waiting ≡ true

-- By what the code has read and compared.
pub head_goes : (s : Arrays.State) (ws : List JobNo) (o : Option (Bor JobNo)) (x : Bor JobNo) → ws ≡ take s.waiting_count s.waiting
    → option_copied o ≡ slice_get ws 0 → o ≡ Some x
    → (level limit : ℕ) → level ≡ level_of (table_of s.table) x.now.0 → limit ≡ system_ceiling (table_of s.table) (state_of s).stack → limit < level
    → Starts s x.now
head_goes s ws o x e f h level limit p q l =
    let w = head_waits s ws o x e f h in
    record {
      rest = map entry_of (drop 1 ws);
      waits = w;
      test = head_starts (table_of s.table) (state_of s).stack (entry_of x.now) _ _ w (omega (arith, p, q, l));
    }

-- ---- what the start test leaves

-- Where nobody starts, the state as it was ..
no_start : (t : Table) (s : State) → starts t s.stack s.waiting ≡ false → start_test t s ≡ s
unfolding start_test
no_start t s h = rw h refl

-- .. and where the head starts, a start.
pub a_start : (t : Table) (s : State) → starts t s.stack s.waiting ≡ true → start_test t s ≡ with_start t s s.waiting
unfolding start_test
a_start t s h = rw h refl

-- Where nothing starts, the ceiling and the state stay.
pub ceiling_kept : (t : Table) (s : State) (n : ℕ) → starts t s.stack s.waiting ≡ false → n ≡ system_ceiling t s.stack
    → n ≡ system_ceiling t (start_test t s).stack
ceiling_kept t s n h e = e ∙ ap (λ (x : State). system_ceiling t x.stack) (sym (no_start t s h))

pub state_kept : (s : Arrays.State) → well_formed s ≡ true → starts (table_of s.table) (state_of s).stack (state_of s).waiting ≡ false
    → s ≡ arrays_of s.table (start_test (table_of s.table) (state_of s))
state_kept s w h = sym (state_back s w) ∙ ap (arrays_of s.table) (sym (no_start (table_of s.table) (state_of s) h))

-- Where the head starts, it stands on the stack ..
head_stands : (t : Table) (s : State) (k : Entry) (ks : List Entry) → s.waiting ≡ k ∷ ks → starts t s.stack s.waiting ≡ true
    → start_test t s ≡ put s (newly_started t k ∷ s.stack) ks
head_stands t s k ks e h = a_start t s h ∙ ap (with_start t s) e

-- .. and its level is the system ceiling.
pub ceiling_left : (t : Table) (s : State) (k : Entry) (ks : List Entry) → s.waiting ≡ k ∷ ks → starts t s.stack s.waiting ≡ true
    → level_at t k ≡ system_ceiling t (start_test t s).stack
ceiling_left t s k ks e h =
    sym (ceiling_started t s.stack k ks (ap (starts t s.stack) (sym e) ∙ h))
    ∙ ap (λ (x : State). system_ceiling t x.stack) (sym (head_stands t s k ks e h))

-- Who waits is counted ..
head_counted : (s : Arrays.State) → well_formed s ≡ true → (k : Entry) (ks : List Entry) → (state_of s).waiting ≡ k ∷ ks → 0 < s.waiting_count
head_counted s h k ks e = omega (arith, ap length e, counted s h)

-- .. so there is room on the stack, since no more are active than there is room for.
pub head_room : (s : Arrays.State) → well_formed s ≡ true → (k : Entry) (ks : List Entry) → (state_of s).waiting ≡ k ∷ ks → s.depth < max_jobs
head_room s h k ks e = omega (arith, (room s h).active, (room s h).jobs, head_counted s h k ks e)
