-- What is held and free, as the code adds it up over the places of the stack, from the lowest up.
-- One place more adds what it holds, and an array of zeros says that nothing is held by no job.
use Rattle.std.specs.Prelude.{◌≡◌, refl, List, [], ℕ, ◌+◌, ◌<◌, length, get_or, take, replicate}
use Rattle.std.proofs.Common.{◌∙◌, arith, length-take, get_or-take}
use Rattle.rules.specs.State.{held_in}
use Rattle.rules.proofs.Counts.{zeros_at}
use Rattle.station.specs.declared.Started.{Started}
use Rattle.station.proofs.View.{stack_up, stack_more}

-- A listed resource is among the first m.
pub listed_resource : (m r : ℕ) (units : List ℕ) → r < length (take m units) → r < m
listed_resource m r units l = omega (arith, length-take m units)

-- One place more.
pub held_more : (m i r : ℕ) (xs : List Started) (d : Started) → i < length xs → r < m
    → held_in (stack_up m (i + 1) xs) r ≡ held_in (stack_up m i xs) r + get_or (get_or xs i d).held r 0
unfolding held_in
held_more m i r xs d l b = rw (stack_more m i xs d l) (omega (arith, get_or-take m (get_or xs i d).held r 0 b))

-- Nothing is held by no job ..
pub held_none : (r : ℕ) → 0 ≡ held_in [] r
unfolding held_in
held_none r = refl

-- .. and an array of zeros says so.
pub nothing_held : (n r : ℕ) → get_or (replicate n 0) r 0 ≡ held_in [] r
nothing_held n r = zeros_at n r ∙ held_none r
