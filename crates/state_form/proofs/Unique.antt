-- One outcome: any two results that a contract of this crate allows are equal, and for storing any two contents of the buffer.
-- Each contract is an equation of the result in the rules' numbers, and a number has one word.
use Rattle.std.proofs.Common.{◌≡◌, sym, ◌∙◌}
use Rattle.table.proofs.Numbers.{in_numbers_once, judged_once}
use Rattle.state_form.proofs.read.get_state.Reads as get_state
use Rattle.state_form.proofs.write.put_state.Reads as put_state

pub get_state_agrees : (κs : _) (a : _) (r₁ r₂ : _) (x₁ x₂ : _) → get_state.Post κs a r₁ x₁ → get_state.Post κs a r₂ x₂ → r₁ ≡ r₂
get_state_agrees κs a r₁ r₂ x₁ x₂ p q = in_numbers_once r₁ r₂ (p ∙ sym q)

pub put_state_agrees : (κs : _) (a : _) (r₁ r₂ : _) (x₁ x₂ : _) → put_state.Post κs a r₁ x₁ → put_state.Post κs a r₂ x₂
    → (r₁ ≡ r₂) × (x₁.1.0.now ≡ x₂.1.0.now)
put_state_agrees κs a r₁ r₂ x₁ x₂ p q = (judged_once r₁ r₂ (p.0 ∙ sym q.0), p.1.0 ∙ sym q.1.0)
