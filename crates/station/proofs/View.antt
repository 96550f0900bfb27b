-- The rules' lists as the code walks them. In the arrays the stack stands from the lowest job up, so the stack of the first i + 1 places
-- has the place i on top of the stack of the first i; and the jobs of a list are those of its places.
use Rattle.std.specs.Prelude.{◌≡◌, List, [], ◌∷◌, ◌++◌, map, reverse, ℕ, zero, suc, ◌+◌, ◌≤◌, ◌<◌, length, get_or, take, refl, None, slice_get}
use Rattle.std.proofs.Common.{◌∙◌, ap, arith, zero-le}
use Rattle.std.proofs.lemmas.List.{map-append, map_more, reverse-append}
use Rattle.std.proofs.lemmas.Option.{none-some}
use mathlib.Core.List.{map-map}
use Rattle.rules.specs.State as R
use Rattle.rules.specs.State.{started_jobs, waiting_jobs}
use Rattle.rules.proofs.Counts.{reverse-first}
use Rattle.table.specs.declared.JobNo.{JobNo}
use Rattle.station.specs.declared.Started.{Started}
use Rattle.station.specs.Arrays.{entry_of, started_in}

-- What an index past the waiting jobs' end reads as, and one past the stack's end.
abbrev pub no_one : JobNo
no_one = record { 0 = 0 }

abbrev pub absent : Started
absent = record { job = no_one; held = [] }

-- The stack of the first i places, with what each holds of the first m resources.
abbrev pub stack_up : ℕ → ℕ → List Started → List R.Started
stack_up m i xs = reverse (map (started_in m) (take i xs))

-- One element more, changed by f: it is the first of the reverse.
pub reversed_more : {A B : Type 0} (f : A → B) (i : ℕ) (xs : List A) (d : A) → i < length xs
    → reverse (map f (take (i + 1) xs)) ≡ f (get_or xs i d) ∷ reverse (map f (take i xs))
reversed_more f i xs d l =
    ap reverse (map_more f xs i d l) ∙ reverse-append (map f (take i xs)) (f (get_or xs i d) ∷ [])

-- One place more: it is the top.
pub stack_more : (m i : ℕ) (xs : List Started) (d : Started) → i < length xs
    → stack_up m (i + 1) xs ≡ started_in m (get_or xs i d) ∷ stack_up m i xs
stack_more m = reversed_more (started_in m)

-- Changed and reversed, in either order.
pub map_reverse : {A B : Type 0} (f : A → B) (xs : List A) → map f (reverse xs) ≡ reverse (map f xs)
map_reverse f [] = refl
map_reverse f (x ∷ xs) =
    rw (reverse-first x xs, reverse-first (f x) (map f xs))
    (map-append f (reverse xs) (x ∷ []) ∙ ap (λ ys. ys ++ f x ∷ []) (map_reverse f xs))

-- A list that has nothing at a place ends before it.
pub none_at : {A : Type 0} (xs : List A) (i : ℕ) → None ≡ slice_get xs i → length xs ≤ i
none_at [] i e = zero-le
none_at (x ∷ xs) zero e = absurd (none-some x e)
none_at (x ∷ xs) (suc i) e = omega (arith, none_at xs i e)

-- ---- the numbers of the jobs

-- The started jobs, one for each place of the stack.
pub started_map : (fs : List R.Started) → started_jobs fs ≡ map (λ f. f.entry.who) fs
started_map [] = refl
started_map (f ∷ fs) = ap (λ js. f.entry.who ∷ js) (started_map fs)

-- The waiting jobs, one for each that has arrived.
pub waiting_map : (ks : List R.Entry) → waiting_jobs ks ≡ map (λ k. k.who) ks
waiting_map [] = refl
waiting_map (k ∷ ks) = ap (λ js. k.who ∷ js) (waiting_map ks)

-- The jobs of the stack, as its places have them.
pub jobs_up : (m : ℕ) (xs : List Started) → started_jobs (reverse (map (started_in m) xs)) ≡ reverse (map (λ f. f.job.0) xs)
jobs_up m xs =
    started_map (reverse (map (started_in m) xs))
    ∙ map_reverse (λ (f : R.Started). f.entry.who) (map (started_in m) xs)
    ∙ ap reverse (map-map (λ (f : R.Started). f.entry.who) (started_in m) xs)

-- The waiting jobs, as their places have them.
pub jobs_waiting : (xs : List JobNo) → waiting_jobs (map entry_of xs) ≡ map (λ j. j.0) xs
jobs_waiting xs = waiting_map (map entry_of xs) ∙ map-map (λ (k : R.Entry). k.who) entry_of xs
