-- The changes of a state, in its arrays: what each leaves is blank past its counts and reads as the rules' state after it, so it is what the
-- arrays hold of that state. The running job stands at the last place that is counted, the head at the first of the waiting jobs.
use Rattle.std.specs.Prelude.{◌≡◌, refl, Bool, true, List, [], ◌∷◌, ◌++◌, map, reverse, ℕ, ◌+◌, ◌-◌, ◌<◌, length, get_or, set, take, drop, replicate}
use Rattle.std.proofs.Common.{ap, ap₂, sym, ◌∙◌, arith, add-one, eqb, eq-eqb}
use Rattle.std.proofs.lemmas.Bool.{and_parts, and_from}
use Rattle.std.proofs.Math.Seq.{take-set-lt}
use Rattle.std.proofs.lemmas.List.{length-set, length-append, drop_more, drop-append-le, take-append-le, length-replicate, take_more, take_more_set, get_or-set_same, take-set, drop-set, drop-set-lt, take-replicate, drop-replicate}
use Rattle.rules.specs.Limits.{max_jobs, max_resources}
use Rattle.rules.specs.Counting.{every}
use Rattle.rules.specs.Table.{resource_count}
use Rattle.rules.specs.State as R
use Rattle.rules.specs.State.{put, running_held, nothing_held}
use Rattle.rules.specs.Start.{with_start}
use Rattle.rules.specs.Events.{hold, leave, with_held, below, applied}
use Rattle.rules.proofs.Counts.{every_last, every_replicate}
use Rattle.table.specs.declared.JobNo.{JobNo}
use Rattle.table.specs.Arrays.{table_of}
use Rattle.table.specs.Judging.{is_zero}
use Rattle.table.proofs.Fit.{resources_listed}
use Rattle.station.specs.declared.Started.{Started}
use Rattle.station.specs.declared.State.{State}
use Rattle.station.specs.Arrays.{entry_of, started_in, state_of, started_of_zeros, arrays_of}
use Rattle.station.specs.WellFormed.{held_blank, started_blank, well_formed}
use Rattle.station.proofs.View.{absent, no_one, stack_up, stack_more}
use Rattle.station.proofs.Units.{listed_resource}
use Rattle.station.proofs.Parts.{none_there, Blank, formed, table_fit}
use Rattle.station.proofs.Back.{blank_back, zeros_blank}

-- ---- lists

-- A test of one place more, and of one in which something was stored.
every_first : {A : Type 0} (p : A → Bool) (k : ℕ) (xs : List A) (d : A) → k < length xs → every p (take (k + 1) xs) ≡ true
    → (every p (take k xs) ≡ true) × (p (get_or xs k d) ≡ true)
every_first p k xs d l h = and_parts _ _ (sym (ap (every p) (take_more xs k d l) ∙ every_last p (take k xs) (get_or xs k d)) ∙ h)

every_set : {A : Type 0} (p : A → Bool) (k : ℕ) (xs : List A) (y : A) → k < length xs → every p (take k xs) ≡ true → p y ≡ true → every p (take (k + 1) (set xs k y)) ≡ true
every_set p k xs y l h q = ap (every p) (take_more_set xs k y l) ∙ every_last p (take k xs) y ∙ and_from _ _ h q

-- The stack with another place on top.
stack_top : (m i : ℕ) (xs : List Started) (f : Started) → i < length xs → stack_up m (i + 1) (set xs i f) ≡ started_in m f ∷ stack_up m i xs
stack_top m i xs f l =
    stack_more m i (set xs i f) f (rw (length-set xs i f) l)
    ∙ ap₂ (λ g ys. started_in m g ∷ reverse (map (started_in m) ys)) (get_or-set_same xs i f f l) (take-set xs i f)

-- A place that holds nothing.
nothing_blank : (m : ℕ) (j : JobNo) → held_blank m (record { job = j; held = replicate max_resources 0 }) ≡ true
nothing_blank m j =
    and_from _ _
    (eq-eqb _ max_resources (length-replicate {A = ℕ} max_resources 0))
    (ap (every is_zero) (drop-replicate m max_resources 0) ∙ every_replicate is_zero (max_resources - m) 0 refl)

-- Of the listed resources it holds 0 units each.
nothing_listed : (s : State) → well_formed s ≡ true → length s.table.units ≡ max_resources → take s.table.resource_count (replicate max_resources 0) ≡ nothing_held (table_of s.table)
nothing_listed s h n =
    let f = table_fit s h in
    take-replicate s.table.resource_count max_resources 0 f.few_resources ∙ ap (λ k. replicate k 0) (sym (resources_listed s.table f n))

-- ---- a state in which something changed, read again

-- Arrays that are blank past their counts and read as x are those that hold x.
pub moved : (s a : State) (x : R.State) → Blank a → a.table ≡ s.table → state_of a ≡ x → a ≡ arrays_of s.table x
moved s a x b e r = sym (blank_back a b) ∙ ap₂ arrays_of e r

-- ---- the running job, at place i

module _ (s : State) (h : well_formed s ≡ true) (i : ℕ) (e : s.depth ≡ i + 1) where
  -- Its place is one of the stack's ..
  within : i < length s.stack
  within = let b = (formed s h).padding in omega (arith, b.stack_length, b.depth_fits)

  -- .. and is the top of the rules' stack.
  top_is : (state_of s).stack ≡ started_in s.table.resource_count (get_or s.stack i absent) ∷ stack_up s.table.resource_count i s.stack
  top_is = ap (λ n. stack_up s.table.resource_count n s.stack) e ∙ stack_more s.table.resource_count i s.stack absent within

  -- The places that are counted, but for the top, and the top.
  places_fit : (every (held_blank s.table.resource_count) (take i s.stack) ≡ true) × (held_blank s.table.resource_count (get_or s.stack i absent) ≡ true)
  places_fit =
      every_first (held_blank s.table.resource_count) i s.stack absent within
      (ap (λ n. every (held_blank s.table.resource_count) (take n s.stack)) (sym e) ∙ (formed s h).padding.held_fits)

  -- With another job or other holdings there the state stays blank past its counts.
  blank_top : (f : Started) → held_blank s.table.resource_count f ≡ true → Blank (record s { stack = set s.stack i f })
  blank_top f q =
      let b = (formed s h).padding in
      record {
        depth_fits = b.depth_fits;
        count_fits = b.count_fits;
        stack_length = length-set s.stack i f ∙ b.stack_length;
        held_fits =
            ap (λ n. every (held_blank s.table.resource_count) (take n (set s.stack i f))) e
            ∙ every_set (held_blank s.table.resource_count) i s.stack f within places_fit.0 q;
        stack_past = ap (every started_blank) (drop-set-lt s.depth s.stack i f (omega arith)) ∙ b.stack_past;
        waiting_length = b.waiting_length;
        waiting_past = b.waiting_past;
      }

  -- The running job's place with other holdings.
  held_moved : (f : Started) (us : List ℕ) → held_blank s.table.resource_count f ≡ true → f.job ≡ (get_or s.stack i absent).job
      → take s.table.resource_count f.held ≡ us
      → record s { stack = set s.stack i f } ≡ arrays_of s.table (applied (table_of s.table) (state_of s) (hold us))
  unfolding applied
  held_moved f us q j u =
      moved s (record s { stack = set s.stack i f }) (put (state_of s) (with_held (state_of s).stack us) (state_of s).waiting) (blank_top f q) refl
      (ap (λ fs. record { stack = fs; waiting = (state_of s).waiting })
      (ap (λ n. stack_up s.table.resource_count n (set s.stack i f)) e
      ∙ stack_top s.table.resource_count i s.stack f within
      ∙ ap₂ (λ (k : JobNo) (vs : List ℕ). record { entry = entry_of k; held = vs } ∷ stack_up s.table.resource_count i s.stack) j u
      ∙ ap (λ fs. with_held fs us) (sym top_is)))

  -- So many units of one resource.
  pub hold_moved : (r u : ℕ) → r < resource_count (table_of s.table)
      → record s { stack = set s.stack i (record { job = (get_or s.stack i absent).job; held = set (get_or s.stack i absent).held r u }) }
      ≡ arrays_of s.table (applied (table_of s.table) (state_of s) (hold (set (running_held (state_of s).stack) r u)))
  hold_moved r u l =
      let m = s.table.resource_count in
      let f = get_or s.stack i absent in
      let p = and_parts (eqb (length f.held) max_resources) (every is_zero (drop m f.held)) places_fit.1 in
      held_moved (record { job = f.job; held = set f.held r u }) (set (running_held (state_of s).stack) r u)
      (and_from _ _
      (ap (λ n. eqb n max_resources) (length-set f.held r u) ∙ p.0)
      (ap (every is_zero) (drop-set-lt m f.held r u (listed_resource m r s.table.units l)) ∙ p.1))
      refl
      (take-set-lt m f.held r u (listed_resource m r s.table.units l) ∙ ap (λ fs. set (running_held fs) r u) (sym top_is))

  -- Nothing.
  pub nothing_moved : length s.table.units ≡ max_resources
      → record s { stack = set s.stack i (record { job = (get_or s.stack i absent).job; held = replicate max_resources 0 }) }
      ≡ arrays_of s.table (applied (table_of s.table) (state_of s) (hold (nothing_held (table_of s.table))))
  nothing_moved n =
      held_moved (record { job = (get_or s.stack i absent).job; held = replicate max_resources 0 }) (nothing_held (table_of s.table))
      (nothing_blank s.table.resource_count (get_or s.stack i absent).job) refl (nothing_listed s h n)

  -- The running job leaves.
  pub left : record s { stack = set s.stack i started_of_zeros; depth = s.depth - 1 } ≡ arrays_of s.table (applied (table_of s.table) (state_of s) leave)
  unfolding applied every
  left =
      let b = (formed s h).padding in
      let m = s.table.resource_count in
      let d : s.depth - 1 ≡ i = omega arith in
      moved s (record s { stack = set s.stack i started_of_zeros; depth = s.depth - 1 }) (put (state_of s) (below (state_of s).stack) (state_of s).waiting)
      (record {
        depth_fits = omega (arith, b.depth_fits);
        count_fits = b.count_fits;
        stack_length = length-set s.stack i started_of_zeros ∙ b.stack_length;
        held_fits = ap (λ n. every (held_blank m) (take n (set s.stack i started_of_zeros))) d ∙ ap (every (held_blank m)) (take-set s.stack i started_of_zeros) ∙ places_fit.0;
        stack_past =
            ap (λ n. every started_blank (drop n (set s.stack i started_of_zeros))) d
            ∙ ap (every started_blank) (drop-set s.stack i started_of_zeros within)
            ∙ and_from _ _ zeros_blank (ap (λ n. every started_blank (drop n s.stack)) (sym e) ∙ b.stack_past);
        waiting_length = b.waiting_length;
        waiting_past = b.waiting_past;
      })
      refl
      (ap (λ fs. record { stack = fs; waiting = (state_of s).waiting })
      (ap (λ n. stack_up m n (set s.stack i started_of_zeros)) d
      ∙ ap (λ ys. reverse (map (started_in m) ys)) (take-set s.stack i started_of_zeros)
      ∙ ap below (sym top_is)))

-- ---- the head

-- The waiting jobs behind the head, each one place further to the front.
abbrev pub behind_head : List JobNo → List JobNo
behind_head xs = drop 1 (set xs 0 no_one) ++ take 1 (set xs 0 no_one)

-- Of the k + 1 that waited the last k are left, and past them is nobody.
record HeadGone (k : ℕ) (xs : List JobNo) : Type 0 where
  same_length : length (behind_head xs) ≡ length xs
  blank : every none_there (drop k (behind_head xs)) ≡ true
  listed : take (k + 1) xs ≡ get_or xs 0 no_one ∷ take k (behind_head xs)

head_gone : (k : ℕ) (xs : List JobNo) → k < length xs → every none_there (drop (k + 1) xs) ≡ true → HeadGone k xs
unfolding every
head_gone k [] l h = absurd (let f : ⊥ = omega arith in f)
head_gone k (x ∷ xs) l h = record {
  same_length = omega (arith, length-append xs (no_one ∷ []));
  blank = ap (every none_there) (drop-append-le k xs (no_one ∷ []) (omega arith))
      ∙ every_last none_there (drop k xs) no_one
      ∙ and_from _ _ (ap (λ n. every none_there (drop n (x ∷ xs))) (sym (add-one k)) ∙ h) refl;
  listed = ap (λ n. take n (x ∷ xs)) (add-one k) ∙ ap (λ ys. x ∷ ys) (sym (take-append-le k xs (no_one ∷ []) (omega arith)));
}

module _ (s : State) (h : well_formed s ≡ true) where
  -- The head starts.
  pub head_started : (k : ℕ) → s.waiting_count ≡ k + 1 → s.depth < max_jobs → length s.table.units ≡ max_resources
      → record s { stack = set s.stack s.depth (record { job = get_or s.waiting 0 no_one; held = replicate max_resources 0 }); depth = s.depth + 1; waiting = behind_head s.waiting; waiting_count = s.waiting_count - 1 }
      ≡ arrays_of s.table (with_start (table_of s.table) (state_of s) (state_of s).waiting)
  unfolding every
  head_started k e l n =
      let f = formed s h in
      let b = f.padding in
      let m = s.table.resource_count in
      let j = get_or s.waiting 0 no_one in
      let p : Started = record { job = j; held = replicate max_resources 0 } in
      let room : s.depth < length s.stack = omega (arith, b.stack_length) in
      let c : s.waiting_count - 1 ≡ k = omega arith in
      let g = head_gone k s.waiting (omega (arith, b.waiting_length, b.count_fits)) (ap (λ n. every none_there (drop n s.waiting)) (sym e) ∙ b.waiting_past) in
      let w : (state_of s).waiting ≡ entry_of j ∷ map entry_of (take k (behind_head s.waiting)) =
      ap (λ n. map entry_of (take n s.waiting)) e ∙ ap (map entry_of) g.listed in
      moved s
      (record s { stack = set s.stack s.depth p; depth = s.depth + 1; waiting = behind_head s.waiting; waiting_count = s.waiting_count - 1 })
      (with_start (table_of s.table) (state_of s) (state_of s).waiting)
      (record {
        depth_fits = omega arith;
        count_fits = omega (arith, b.count_fits);
        stack_length = length-set s.stack s.depth p ∙ b.stack_length;
        held_fits = every_set (held_blank m) s.depth s.stack p room b.held_fits (nothing_blank m j);
        stack_past =
            ap (every started_blank) (drop-set-lt (s.depth + 1) s.stack s.depth p (omega arith))
            ∙ (and_parts _ _ (sym (ap (every started_blank) (drop_more s.stack s.depth absent room)) ∙ b.stack_past)).1;
        waiting_length = g.same_length ∙ b.waiting_length;
        waiting_past = ap (λ n. every none_there (drop n (behind_head s.waiting))) c ∙ g.blank;
      })
      refl
      (ap₂ (λ (fs : List R.Started) (ks : List R.Entry). record { stack = fs; waiting = ks })
      (stack_top m s.depth s.stack p room
      ∙ ap (λ (us : List ℕ). record { entry = entry_of j; held = us } ∷ (state_of s).stack) (nothing_listed s h n))
      (ap (λ n. map entry_of (take n (behind_head s.waiting))) c)
      ∙ ap (with_start (table_of s.table) (state_of s)) (sym w))
