-- An answer is accepted or refused, and not both: the two cases of a `Result` are never equal.
-- What is inside tells nothing here, so one lemma serves for every type.
use Rattle.std.specs.Prelude.{◌≡◌, Result, Ok, Err}

pub ok_not_err : {A E : Type 0} (x : A) (e : E) → ◌≡◌ {A = Result A E} (Ok x) (Err e) → ⊥
ok_not_err x e h = cc
