-- Laws of choices: a property of a choice by its two cases, and what is known where the first bad test has a certain number.
use Rattle.std.specs.Prelude.{◌≡◌, refl, ◌⊎◌, Bool, true, false, List, [], ◌∷◌, ℕ, T, eqb}
use Rattle.std.proofs.Common.{sym, subst, inl, inr, eq-eqb, ⊎_elim}
use Rattle.std.proofs.lemmas.Bool.{eqb-false, cases_Bool}
use Rattle.rules.specs.Choice.{pick, Check, first_bad}

pub pick_case : {A : Type 0} (P : A → Type 0) (b : Bool) (x y : A) → (b ≡ true → P x) → (b ≡ false → P y) → P (pick b x y)
pick_case P true x y h k = h refl
pick_case P false x y h k = k refl

-- by a test
pub by_test : {P : Type 0} (b : Bool) → (b ≡ true → P) → (b ≡ false → P) → P
by_test b h k = ⊎_elim h k (cases_Bool b)

-- ---- refusals

-- What is known where the first bad test has number n: those before it pass (n = 0: all pass). It computes for numbers that are written out.
abbrev pub StopAt : Bool → Bool → Type 0 → Type 0
StopAt true f R = (f ≡ true) ⊎ ((f ≡ false) × R)
StopAt false f R = (f ≡ false) × R

abbrev pub Stop : ℕ → List Check → Type 0
Stop n [] = T (eqb 0 n)
Stop n (c ∷ cs) = StopAt (eqb c.number n) c.fails (Stop n cs)

stop_step : (f : Bool) (k n rest : ℕ) (R : Type 0) → pick f k rest ≡ n → (rest ≡ n → R) → (b : Bool) → eqb k n ≡ b → StopAt b f R
stop_step true k n rest R e h true q = inl refl
stop_step true k n rest R e h false q = absurd (eqb-false k n q e)
stop_step false k n rest R e h true q = inr (refl, h e)
stop_step false k n rest R e h false q = (refl, h e)

pub stopped : (n : ℕ) (cs : List Check) → first_bad cs ≡ n → Stop n cs
unfolding first_bad
stopped n [] e = subst T (sym (eq-eqb 0 n e)) tt
stopped n (c ∷ cs) e = stop_step c.fails c.number n (first_bad cs) (Stop n cs) e (λ q. stopped n cs q) (eqb c.number n) refl
