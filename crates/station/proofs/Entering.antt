-- One who comes in, in the arrays: the walk stops at the first waiting job that it is sooner than, those from there on go one place further
-- to the back, and it takes the place. So the waiting jobs are those of the rules' `insert`, and past their count all is as it was.
use Rattle.std.specs.Prelude.{◌≡◌, refl, true, false, List, [], ◌∷◌, ◌++◌, map, ℕ, suc, ◌+◌, ◌-◌, ◌≤◌, ◌<◌, length, get_or, set, take, drop, ltb}
use Rattle.std.specs.Ordering.{is_lt, nat_cmp}
use Rattle.std.proofs.Common.{ap, ap₂, sym, ◌∙◌, arith, length-take-le}
use Rattle.std.proofs.lemmas.Bool.Decides.{nat_tests}
use Rattle.std.proofs.Math.Seq.{take-append-add, drop-append-add}
use Rattle.std.proofs.lemmas.List.{map_more, append-nil, append_assoc, take-take, take_rest, take-map, drop-map, drop-take, drop-drop, length-drop, set_at, length-map, get_or-map, drop_all, length-append, drop_more, length-take, map-append}
use borrow.Rule.Slice.PartMut.{mid_of, put_mid}
use Rattle.rules.specs.Limits.{max_jobs}
use Rattle.rules.specs.Counting.{every}
use Rattle.rules.specs.Table as T
use Rattle.rules.specs.Table.{resource_count, level_of}
use Rattle.rules.specs.State as R
use Rattle.rules.specs.State.{put, running_held, nothing_held}
use Rattle.rules.specs.Waiting.{sooner, insert}
use Rattle.rules.specs.Events.{enter, applied}
use Rattle.rules.proofs.Counts.{every_take}
use Rattle.table.specs.declared.JobNo.{JobNo}
use Rattle.table.specs.Arrays.{table_of}
use Rattle.station.specs.declared.State.{State}
use Rattle.station.specs.Arrays.{entry_of, state_of, arrays_of}
use Rattle.station.specs.WellFormed.{well_formed}
use Rattle.station.proofs.View.{no_one}
use Rattle.station.proofs.Parts.{none_there, formed}
use Rattle.station.proofs.Back.{waiting_length}
use Rattle.station.proofs.Changes.{moved}

-- ---- its place

-- The code's test of the waiting job at a place is whether one who comes in is sooner.
pub sooner_test : (t : T.Table) (j : JobNo) (js : List JobNo) (i k a b : ℕ) → i ≡ k → a ≡ level_of t (get_or js k no_one).0 → b ≡ level_of t j.0
    → is_lt (nat_cmp a b) ≡ sooner t (entry_of j) (entry_of (get_or js i no_one))
unfolding sooner
sooner_test t j js i k a b p q r = rw (p, q, r) (lt_test (level_of t (get_or js k no_one).0) (level_of t j.0))
  where
    lt_test : (m n : ℕ) → is_lt (nat_cmp m n) ≡ ltb m n
    lt_test m n = grind (arith, nat_tests)

module _ (t : T.Table) (e : R.Entry) (js : List JobNo) (i : ℕ) where
  -- The waiting job at place i, and those behind it.
  waits_at : i < length js → drop i (map entry_of js) ≡ entry_of (get_or js i no_one) ∷ drop (i + 1) (map entry_of js)
  waits_at l =
      drop_more (map entry_of js) i (entry_of no_one) (rw (length-map js entry_of) l)
      ∙ ap (λ k. k ∷ drop (i + 1) (map entry_of js)) (get_or-map entry_of js i no_one (entry_of no_one) l)

  -- It stays before one who comes in, if that one is not sooner ..
  pub passed : (x : List R.Entry) → i < length js → sooner t e (entry_of (get_or js i no_one)) ≡ false
      → take i (map entry_of js) ++ insert t e (drop i (map entry_of js)) ≡ x
      → take (i + 1) (map entry_of js) ++ insert t e (drop (i + 1) (map entry_of js)) ≡ x
  unfolding insert
  passed x l q h =
      let ks = map entry_of js in
      let k = entry_of (get_or js i no_one) in
      let one : insert t e (drop i ks) ≡ k ∷ insert t e (drop (i + 1) ks) = rw (waits_at l, q) refl in
      ap (λ ys. ys ++ insert t e (drop (i + 1) ks)) (take-map entry_of (i + 1) js ∙ map_more entry_of js i no_one l)
      ∙ append_assoc (map entry_of (take i js)) (k ∷ []) (insert t e (drop (i + 1) ks))
      ∙ ap₂ (λ us vs. us ++ vs) (sym (take-map entry_of i js)) (sym one)
      ∙ h

  -- .. and stands behind it, if it is.
  pub found : (x : List R.Entry) → i < length js → sooner t e (entry_of (get_or js i no_one)) ≡ true
      → take i (map entry_of js) ++ insert t e (drop i (map entry_of js)) ≡ x → x ≡ take i (map entry_of js) ++ (e ∷ drop i (map entry_of js))
  unfolding insert
  found x l q h =
      let ks = map entry_of js in
      let one : insert t e (drop i ks) ≡ e ∷ drop i ks = rw (waits_at l, q) refl in
      sym h ∙ ap (λ ys. take i ks ++ ys) one

  -- Behind all of them stands nobody.
  pub passed_all : (x : List R.Entry) → length js ≤ i
      → take i (map entry_of js) ++ insert t e (drop i (map entry_of js)) ≡ x → x ≡ take i (map entry_of js) ++ (e ∷ drop i (map entry_of js))
  unfolding insert
  passed_all x l h =
      let ks = map entry_of js in
      let one : insert t e (drop i ks) ≡ e ∷ drop i ks = rw (drop_all i ks (rw (length-map js entry_of) l)) refl in
      sym h ∙ ap (λ ys. take i ks ++ ys) one

-- ---- room for it

-- The list with y at place i, each element from there on one place further back; the last falls off.
abbrev pub with_room : {A : Type 0} → ℕ → A → List A → List A
with_room i y xs = take i xs ++ (y ∷ take (length xs - (i + 1)) (drop i xs))

-- So it is after the part from place i on was rotated to the right, and y stored there.
pub rotated : {A : Type 0} (i n : ℕ) (xs ws : List A) (y : A) → n ≡ length xs → i < n
    → ws ≡ drop (length (mid_of i (n - i) xs) - 1) (mid_of i (n - i) xs) ++ take (length (mid_of i (n - i) xs) - 1) (mid_of i (n - i) xs)
    → set (put_mid i (n - i) xs ws) i y ≡ with_room i y xs
rotated i n xs ws y e l r =
    let ds = drop i xs in
    let whole : mid_of i (n - i) xs ≡ ds = ap (λ k. take (k - i) ds) e ∙ take_rest xs i in
    let long : length ds ≡ n - i = length-drop i xs ∙ ap (λ k. k - i) (sym e) in
    let turned : ws ≡ drop (length ds - 1) ds ++ take (length ds - 1) ds = r ∙ ap (λ us. drop (length us - 1) us ++ take (length us - 1) us) whole in
    let nothing : drop (n - i) ds ≡ [] = drop_all (n - i) ds (omega arith) in
    ap (λ us. set (take i xs ++ (us ++ drop (n - i) ds)) i y) (turned ∙ ap (λ us. us ++ take (length ds - 1) ds) (drop_more ds (length ds - 1) y (omega arith)))
    ∙ set_at (take i xs) (get_or ds (length ds - 1) y) ((drop (length ds - 1 + 1) ds ++ take (length ds - 1) ds) ++ drop (n - i) ds) y i (length-take-le i xs (omega arith))
    ∙ ap (λ us. take i xs ++ (y ∷ us))
    (ap (λ us. (us ++ take (length ds - 1) ds) ++ drop (n - i) ds) (drop_all (length ds - 1 + 1) ds (omega arith))
    ∙ ap (λ us. take (length ds - 1) ds ++ us) nothing
    ∙ append-nil (take (length ds - 1) ds)
    ∙ ap (λ k. take k ds) (omega arith))

-- Of the first n + 1 places, where the first n were listed.
record RoomMade {A : Type 0} (i n : ℕ) (xs : List A) (y : A) : Type 0 where
  same_length : length (with_room i y xs) ≡ length xs
  listed : take (n + 1) (with_room i y xs) ≡ take i (take n xs) ++ (y ∷ drop i (take n xs))
  behind : drop (n + 1) (with_room i y xs) ≡ take (length xs - (n + 1)) (drop n xs)

room_made : {A : Type 0} (i m n : ℕ) (xs : List A) (y : A) → n ≡ i + m → n < length xs → RoomMade i n xs y
room_made i m n xs y e l =
    let ds = drop i xs in
    let front : length (take i xs) ≡ i = length-take-le i xs (omega arith) in
    let k = length xs - (i + 1) in
    let up : n + 1 ≡ length (take i xs) + suc m = omega arith in
    record {
      same_length = omega (arith, length-append (take i xs) (y ∷ take k ds), length-take k ds, length-drop i xs);
      listed =
          ap (λ j. take j (with_room i y xs)) up
          ∙ take-append-add (take i xs) (y ∷ take k ds) (suc m)
          ∙ ap₂ (λ us vs. us ++ (y ∷ vs)) (sym (take-take i n xs (omega arith))) (take-take m k ds (omega arith) ∙ sym (ap (λ j. drop i (take j xs)) e ∙ drop-take i m xs));
      behind =
          ap (λ j. drop j (with_room i y xs)) up
          ∙ drop-append-add (take i xs) (y ∷ take k ds) (suc m)
          ∙ ap (λ j. drop m (take j ds)) (omega arith)
          ∙ drop-take m (length xs - (n + 1)) ds
          ∙ ap (take (length xs - (n + 1))) (drop-drop m i xs ∙ ap (λ j. drop j xs) (sym e));
    }

-- A job comes in, at place i.
pub entered : (s : State) → well_formed s ≡ true → (i : ℕ) (j : JobNo) → s.waiting_count < max_jobs → i ≤ length (state_of s).waiting
    → insert (table_of s.table) (entry_of j) (state_of s).waiting ≡ take i (state_of s).waiting ++ (entry_of j ∷ drop i (state_of s).waiting)
    → record s { waiting = with_room i j s.waiting; waiting_count = s.waiting_count + 1 }
    ≡ arrays_of s.table (applied (table_of s.table) (state_of s) (enter (entry_of j)))
unfolding applied
entered s h i j l n e =
    let b = (formed s h).padding in
    let k = s.waiting_count in
    let ws = take k s.waiting in
    let c = waiting_length s b in
    let g = room_made i (k - i) k s.waiting j (omega arith) (omega (arith, b.waiting_length)) in
    moved s (record s { waiting = with_room i j s.waiting; waiting_count = k + 1 })
    (put (state_of s) (state_of s).stack (insert (table_of s.table) (entry_of j) (state_of s).waiting))
    (record {
      depth_fits = b.depth_fits;
      count_fits = omega arith;
      stack_length = b.stack_length;
      held_fits = b.held_fits;
      stack_past = b.stack_past;
      waiting_length = g.same_length ∙ b.waiting_length;
      waiting_past = ap (every none_there) g.behind ∙ every_take none_there (length s.waiting - (k + 1)) (drop k s.waiting) b.waiting_past;
    })
    refl
    (ap (λ (ks : List R.Entry). record { stack = (state_of s).stack; waiting = ks })
    (ap (map entry_of) g.listed
    ∙ map-append entry_of (take i ws) (j ∷ drop i ws)
    ∙ ap₂ (λ us vs. us ++ (entry_of j ∷ vs)) (sym (take-map entry_of i ws)) (sym (drop-map entry_of i ws))
    ∙ sym e))
