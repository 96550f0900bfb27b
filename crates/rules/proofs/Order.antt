-- The laws that demand 3 asks of the waiting order. Its proof opens `sooner` in this file alone, so another order (Baker 1990, section 2.5)
-- is proved by proving these four laws of it.
use Rattle.std.specs.Prelude.{◌≡◌, Bool, true, false, ◌&&◌, List, [], ◌∷◌, ◌<◌, ltb}
use Rattle.std.proofs.Common.{sym, arith, ltb-true}
use Rattle.std.proofs.lemmas.Bool.Decides.{nat_tests}
use Rattle.std.proofs.Math.Bool.{and-true}
use Rattle.rules.specs.Table.{Table, job_count}
use Rattle.rules.specs.State.{Entry, Started, State, level_at}
use Rattle.rules.specs.Ceilings.{system_ceiling}
use Rattle.rules.specs.Waiting.{sooner}
use Rattle.rules.specs.Start.{starts}
use Rattle.rules.proofs.Tables.{Good}

-- what every active entry keeps, for the order to be one
pub record LiveAt (t : Table) (e : Entry) : Type 0 where
  pub listed : e.who < job_count t

abbrev pub Live : Table → State → Entry → Type 0
Live t s e = LiveAt t e

-- ---- the four laws

-- (1) never both sooner
pub sooner_asym : (t : Table) → Good t → (s : State) (a b : Entry) → Live t s a → Live t s b → sooner t a b ≡ true → sooner t b a ≡ false
unfolding sooner
sooner_asym t g s a b x y h = grind (arith, nat_tests)

-- (2) what is not sooner than one behind is not sooner than the first
pub sooner_behind : (t : Table) → Good t → (s : State) (a b d : Entry) → Live t s a → Live t s b → Live t s d
    → sooner t b a ≡ false → sooner t d b ≡ false → sooner t d a ≡ false
unfolding sooner
sooner_behind t g s a b d x y z h k = grind (arith, nat_tests)

-- (3) one that arrives and is sooner than an active one has the higher level (Baker 1990, condition (2.1))
pub sooner_level : (t : Table) → Good t → (s : State) (a b : Entry) → Live t s a → Live t s b → sooner t a b ≡ true → level_at t b < level_at t a
unfolding sooner
sooner_level t g s a b x y h = ltb-true _ _ h

-- (4) the head starts exactly if its level is above the system ceiling and it is sooner than the running job
abbrev pub sooner_top : Table → Entry → List Started → Bool
sooner_top t k [] = true
sooner_top t k (f ∷ fs) = sooner t k f.entry

pub starts_is : (t : Table) (fs : List Started) (k : Entry) (ks : List Entry)
    → starts t fs (k ∷ ks) ≡ (ltb (system_ceiling t fs) (level_at t k) && sooner_top t k fs)
unfolding starts
starts_is t [] k ks = sym (and-true _)
starts_is t (f ∷ fs) k ks = unfold sooner system_ceiling in grind (arith, nat_tests)

-- ---- lower level and later in the order are one: what demand 3 says of levels

pub level_sooner : (t : Table) (w f : Entry) → ltb (level_at t f) (level_at t w) ≡ true → sooner t w f ≡ true
unfolding sooner
level_sooner t w f h = h
