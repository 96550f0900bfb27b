-- docs/RULES.md, "Refusal numbers": the number of each refusal.
use Rattle.std.specs.Prelude.{ℕ, zero, suc, Result, Ok, Err}
use Rattle.table.specs.declared.Refusal.{Refusal}
use Rattle.table.specs.declared.RefusedAt.{RefusedAt}
use Rattle.table.specs.declared.Refusal.TheVariants.{InputEnds, WrongTagOrCount, WrongLength, ValueOutOfRange, StackTooSmall, BufferTooShort}
use Rattle.table.specs.declared.Refusal.TheVariants.{NotWellFormed, WrongMemoryLength, NoSuchJob, AlreadyActive, NotRunning, NoSuchResource}
use Rattle.table.specs.declared.Refusal.TheVariants.{AmountZero, AboveNeed, AboveFree, AboveHeld, StillHolds, HoldsNothing}

-- The number of a refusal; over each, when it is given.
abbrev pub number_of : Refusal → ℕ
-- input ends inside a field or where a field is due
number_of InputEnds = 1
-- a tag that can't stand here, a ninth resource and a 33rd job included; a count out of range
number_of WrongTagOrCount = 2
-- wrong length for the tag
number_of WrongLength = 3
-- value outside its range
number_of ValueOutOfRange = 4
-- worst stack greater than stack size
number_of StackTooSmall = 5
-- output buffer shorter than what is to be written
number_of BufferTooShort = 6
-- state not well formed
number_of NotWellFormed = 10
-- stack memory's length is not the stack size
number_of WrongMemoryLength = 11
-- no such job
number_of NoSuchJob = 12
-- arrive: job already waiting or started
number_of AlreadyActive = 13
-- job is not the running one
number_of NotRunning = 14
-- no such resource
number_of NoSuchResource = 15
-- amount 0
number_of AmountZero = 16
-- acquire: held plus amount above the declared need
number_of AboveNeed = 17
-- acquire: amount above the free units
number_of AboveFree = 18
-- releases more than it holds
number_of AboveHeld = 19
-- finish while holding units
number_of StillHolds = 20
-- release all while holding nothing
number_of HoldsNothing = 21

-- ---- answers in numbers

-- An answer, with a refusal's number in the place of its word.
abbrev pub in_numbers : {A : Type 0} → Result A Refusal → Result A ℕ
in_numbers (Ok x) = Ok x
in_numbers (Err r) = Err (number_of r)

-- A refusal's number, or, where it is 0, the answer.
abbrev pub when_fit : {A : Type 0} → ℕ → A → Result A ℕ
when_fit zero x = Ok x
when_fit (suc n) x = Err (suc n)

-- With a reading refusal goes a place.
abbrev pub refused_at : {A : Type 0} → ℕ → ℕ → Result A (ℕ × ℕ)
refused_at n at = Err (n, at)

-- A reading's refusal in numbers.
abbrev pub numbers_of : RefusedAt → ℕ × ℕ
numbers_of e = (number_of e.refusal, e.place)

-- A refusal's number at its place, or, where it is 0, what was read.
abbrev pub or_refused : {A : Type 0} → ℕ → ℕ → Result A (ℕ × ℕ) → Result A (ℕ × ℕ)
or_refused zero at r = r
or_refused (suc n) at r = refused_at (suc n) at
