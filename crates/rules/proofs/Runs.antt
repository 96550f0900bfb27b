-- The run of a list of events ends in the moment of that number, so what is proved of moments is proved of runs.
use Rattle.std.specs.Prelude.{◌≡◌, refl, List, [], ◌∷◌, ◌++◌, ℕ, zero, suc, ◌≤◌, length, get_or, take}
use Rattle.std.proofs.Common.{sym, ap, ◌∙◌, le_refl, arith, take-suc}
use Rattle.std.proofs.Math.Seq.{take-length}
use Rattle.rules.specs.Table.{Table}
use Rattle.rules.specs.State.{State, fresh}
use Rattle.rules.specs.Events.{Event, after}
use Rattle.rules.specs.Run.{run, moment}

pub run-append : (t : Table) (s : State) (es fs : List Event) → run t s (es ++ fs) ≡ run t (run t s es) fs
unfolding run
run-append t s [] fs = refl
run-append t s (e ∷ es) fs = run-append t (after t s e) es fs

module _ (t : Table) (es : List Event) (d : Event) where
  moment-run : (m : ℕ) → m ≤ length es → run t fresh (take m es) ≡ moment t (λ i. get_or es i d) m
  unfolding moment run
  moment-run zero l = refl
  moment-run (suc m) l =
      ap (run t fresh) (take-suc es m d l)
      ∙ run-append t fresh (take m es) (get_or es m d ∷ [])
      ∙ ap (λ (s : State). after t s (get_or es m d)) (moment-run m (omega arith))

  pub run-moment : run t fresh es ≡ moment t (λ i. get_or es i d) (length es)
  run-moment = ap (run t fresh) (sym (take-length es)) ∙ moment-run (length es) (le_refl _)
