-- What a start does to the stack memory, byte by byte: its length stays, the bytes of the part become zero, every other byte stays.
-- (`front`, `past` and `far` were steps once, and stand since they stood.)
use Rattle.std.specs.Prelude.{◌≡◌, List, ℕ, ◌+◌, ◌≤◌, ◌<◌, ◌++◌, length, get_or, take, drop, replicate}
use Rattle.std.proofs.Common.{arith, length-take-le}
use Rattle.std.proofs.lemmas.List.{places}
use Rattle.rules.specs.Memory.{cleared}

module _ (a n : ℕ) (m : List ℕ) (h : a + n ≤ length m) where
  front : length (take a m) ≡ a
  front = length-take-le a m (omega arith)

  pub cleared-length : length (cleared a n m) ≡ length m
  cleared-length = grind (arith, places)

  pub cleared_before : (i : ℕ) → i < a → get_or (cleared a n m) i 0 ≡ get_or m i 0
  cleared_before i l = grind (arith, places)

  past : (k : ℕ) → get_or (cleared a n m) (a + k) 0 ≡ get_or (replicate n 0 ++ drop (a + n) m) k 0
  past k = grind (arith, places)

  pub cleared_inside : (i : ℕ) → a ≤ i → i < a + n → get_or (cleared a n m) i 0 ≡ 0
  cleared_inside i l k = grind (arith, places)

  far : (k : ℕ) → get_or (cleared a n m) (a + (n + k)) 0 ≡ get_or m (a + n + k) 0
  far k = grind (arith, places)

  pub cleared_behind : (i : ℕ) → a + n ≤ i → get_or (cleared a n m) i 0 ≡ get_or m i 0
  cleared_behind i l = grind (arith, places)
