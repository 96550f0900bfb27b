-- docs/RULES.md, "Rules of the policy": the order of waiting; and the waiting word of "Replaying one log".
use Rattle.std.specs.Prelude.{Bool, List, [], ◌∷◌, ℕ, ◌^◌, ltb}
use Rattle.std.proofs.Math.Option.{Option, none, some}
use Rattle.rules.specs.Choice.{pick}
use Rattle.rules.specs.Counting.{sum_below, contains}
use Rattle.rules.specs.Table.{Table}
use Rattle.rules.specs.State.{Entry, level_at, waiting_jobs}

-- Waiting jobs stand by falling level: e is to stand before k, whichever came first. This is the one definition of the order.
unfoldable pub sooner : Table → Entry → Entry → Bool
sooner t e k = ltb (level_at t k) (level_at t e)

-- Equal levels by arrival: a job that arrives goes before the first one that it is sooner than.
unfoldable pub insert : Table → Entry → List Entry → List Entry
insert t e [] = e ∷ []
insert t e (k ∷ ks) = pick (sooner t e k) (e ∷ k ∷ ks) (k ∷ insert t e ks)

-- The first is the head.
abbrev pub head_of : List Entry → Option ℕ
head_of [] = none
head_of (k ∷ ks) = some k.who

-- The waiting word: bit j is set if job j waits; n is the number of jobs.
unfoldable pub waiting_word : ℕ → List Entry → ℕ
waiting_word n ks = sum_below n (λ j. pick (contains j (waiting_jobs ks)) (2 ^ j) 0)
