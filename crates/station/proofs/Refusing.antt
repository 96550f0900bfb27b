-- What the events of the running job need: the tests that they share stand first in the rules' lists, so those decide; whoever passes them
-- has the last listed place, and past the listed resources that place is zero, so its units are the rules' and their sum is that of its array.
use Rattle.std.specs.Prelude.{◌≡◌, refl, Bool, true, false, List, [], ◌∷◌, ℕ, zero, suc, ◌+◌, ◌-◌, ◌<◌, length, get_or, take, drop, ltb, eqb, Some, slice_get}
use Rattle.std.specs.List.{list_any}
use Rattle.std.proofs.Common.{ap, sym, ◌∙◌, arith}
use Rattle.std.proofs.lemmas.Bool.{and_parts}
use Rattle.std.proofs.lemmas.Bool.Decides.{nat_tests}
use Rattle.std.proofs.lemmas.List.{get_or-take}
use Rattle.std.proofs.lemmas.Option.{slice_get_within, get_or_from_slice_get}
use Rattle.rules.specs.Limits.{max_resources}
use Rattle.rules.specs.Choice.{Check, refuse, first_bad}
use Rattle.rules.specs.Counting.{total, every}
use Rattle.rules.specs.Table as T
use Rattle.rules.specs.Table.{resource_count}
use Rattle.rules.specs.State as R
use Rattle.rules.specs.State.{running_held}
use Rattle.rules.specs.Events.{by_running, no_such_resource, no_amount, holds_of}
use Rattle.rules.proofs.Counts.{every_at}
use Rattle.table.specs.declared.Refusal.{Refusal}
use Rattle.table.specs.Arrays.{table_of}
use Rattle.table.specs.Judging.{is_zero}
use Rattle.table.specs.Refusals.{number_of}
use Rattle.table.proofs.Numbers.{number_not_zero}
use Rattle.table.proofs.Fit.{few_resources_listed}
use Rattle.station.specs.declared.Started.{Started}
use Rattle.station.specs.declared.State.{State}
use Rattle.station.specs.Arrays.{state_of}
use Rattle.station.specs.WellFormed.{held_blank, well_formed}
use Rattle.station.proofs.Parts.{formed, table_fit}
use Rattle.station.proofs.Units.{listed_resource}

-- ---- the tests that the events of the running job share

-- A refusal by the first two of several tests is one by all.
two_refuse : (a b : Bool) (k l n : ℕ) (cs : List Check) → (n ≡ 0 → ⊥) → n ≡ first_bad (refuse a k ∷ refuse b l ∷ []) → n ≡ first_bad (refuse a k ∷ refuse b l ∷ cs)
unfolding first_bad
two_refuse true b k l n cs h e = e
two_refuse false true k l n cs h e = e
two_refuse false false k l n cs h e = absurd (h e)

-- So is one by 12 and 14.
pub running_refuses : (t : T.Table) (s : R.State) (j : ℕ) (r : Refusal) (cs : List Check) → number_of r ≡ first_bad (by_running t s j [])
    → number_of r ≡ first_bad (by_running t s j cs)
running_refuses t s j r cs e = two_refuse _ _ _ _ (number_of r) cs (number_not_zero r) e

-- What 15 lets pass is a listed resource.
pub amount_listed : (t : T.Table) (r n : ℕ) → 0 ≡ first_bad (no_such_resource t r ∷ no_amount n ∷ []) → r < resource_count t
unfolding first_bad
amount_listed t r n e = grind (arith, nat_tests)

-- ---- the running job's place

-- In a well-formed state what the last place holds past the listed resources is zero.
pub last_blank : (s : State) (f : Started) → well_formed s ≡ true → slice_get (take s.depth s.stack) (length (take s.depth s.stack) - 1) ≡ Some f
    → held_blank s.table.resource_count f ≡ true
last_blank s f w e =
    let m = s.table.resource_count in
    let xs = take s.depth s.stack in
    let i = length xs - 1 in
    ap (held_blank m) (sym (get_or_from_slice_get xs i f f e))
    ∙ every_at (held_blank m) xs (formed s w).padding.held_fits i f (slice_get_within xs i f e)

-- A listed resource has a place in each array of units.
pub listed_fits : (s : State) (r : ℕ) → well_formed s ≡ true → r < resource_count (table_of s.table) → r < max_resources
listed_fits s r w l = omega (arith, few_resources_listed s.table (table_fit s w))

-- So has one that 15 lets pass.
pub amount_fits : (s : State) (r n : ℕ) → well_formed s ≡ true → 0 ≡ first_bad (no_such_resource (table_of s.table) r ∷ no_amount n ∷ []) → r < max_resources
amount_fits s r n w e = listed_fits s r w (amount_listed (table_of s.table) r n e)

-- The units of a listed resource are the rules'.
pub holds_at : (s : State) (h : List ℕ) (r : ℕ) → running_held (state_of s).stack ≡ take s.table.resource_count h → r < resource_count (table_of s.table)
    → get_or h r 0 ≡ holds_of (state_of s) r
holds_at s h r e l =
    let m = s.table.resource_count in
    sym (ap (λ hs. get_or hs r 0) e ∙ get_or-take m h r 0 (listed_resource m r s.table.units l))

-- ---- all that it holds

-- Some units are held exactly if the sum is above 0.
pub some_held : (xs : List ℕ) → list_any (λ u. ltb 0 u) xs ≡ ltb 0 (total xs)
unfolding total
some_held [] = refl
some_held (x ∷ xs) = grind (arith, nat_tests, some_held xs)

-- Zeros behind the first m add nothing.
total_taken : (m : ℕ) (xs : List ℕ) → every is_zero (drop m xs) ≡ true → total (take m xs) ≡ total xs
unfolding total every
total_taken zero [] h = refl
total_taken zero (x ∷ xs) h =
    let p : (eqb x 0 ≡ true) × (every is_zero xs ≡ true) = and_parts _ _ h in
    grind (arith, nat_tests, total_taken zero xs p.1)
total_taken (suc m) [] h = refl
total_taken (suc m) (x ∷ xs) h = ap (λ n. x + n) (total_taken m xs h)

-- The sum of what the running job holds is that of its array.
pub all_held : (s : State) (f : Started) → running_held (state_of s).stack ≡ take s.table.resource_count f.held
    → held_blank s.table.resource_count f ≡ true → total (running_held (state_of s).stack) ≡ total f.held
all_held s f e b = ap total e ∙ total_taken s.table.resource_count f.held (and_parts _ _ b).1

-- What the outcome of each test tells, and what the units are that it is made of.
pub ruleset telling = (nat_tests, number_not_zero, all_held, amount_listed, holds_at)
