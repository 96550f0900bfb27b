-- One outcome: any two results that a contract of this crate allows are equal, and any two contents of the bytes that it writes.
-- Each contract is one equation of the result, and of each buffer as the function returns.
use Rattle.std.proofs.Common.{◌≡◌, sym, ◌∙◌}
use Rattle.driver.proofs.replay.urzalinda_replay.Reads as replay
use Rattle.driver.proofs.replay.urzalinda_room.Reads as room
use Rattle.driver.proofs.tables.urzalinda_read_table.Reads as read_table
use Rattle.driver.proofs.tables.urzalinda_refused_at.Reads as refused_at
use Rattle.driver.proofs.tables.urzalinda_fresh.Reads as fresh
use Rattle.driver.proofs.apply.urzalinda_apply.Reads as apply
use Rattle.driver.proofs.readers.urzalinda_running.Reads as running
use Rattle.driver.proofs.readers.urzalinda_system_ceiling.Reads as system_ceiling
use Rattle.driver.proofs.readers.urzalinda_ceiling.Reads as ceiling
use Rattle.driver.proofs.readers.urzalinda_number_waiting.Reads as number_waiting
use Rattle.driver.proofs.readers.urzalinda_waiting_word.Reads as waiting_word
use Rattle.driver.proofs.frame.urzalinda_frame_start.Reads as frame_start
use Rattle.driver.proofs.frame.urzalinda_frame_length.Reads as frame_length

pub replay_agrees : (κs : _) (a : _) (r₁ r₂ : _) (x₁ x₂ : _) → replay.Post κs a r₁ x₁ → replay.Post κs a r₂ x₂
    → (r₁ ≡ r₂) × (x₁.1.0.now ≡ x₂.1.0.now)
replay_agrees κs a r₁ r₂ x₁ x₂ p q = (p.0 ∙ sym q.0, p.1 ∙ sym q.1)

pub room_agrees : (κs : _) (a : _) (r₁ r₂ : _) (x₁ x₂ : _) → room.Post κs a r₁ x₁ → room.Post κs a r₂ x₂ → r₁ ≡ r₂
room_agrees κs a r₁ r₂ x₁ x₂ p q = p ∙ sym q

pub read_table_agrees : (κs : _) (a : _) (r₁ r₂ : _) (x₁ x₂ : _) → read_table.Post κs a r₁ x₁ → read_table.Post κs a r₂ x₂ → r₁ ≡ r₂
read_table_agrees κs a r₁ r₂ x₁ x₂ p q = p ∙ sym q

pub refused_at_agrees : (κs : _) (a : _) (r₁ r₂ : _) (x₁ x₂ : _) → refused_at.Post κs a r₁ x₁ → refused_at.Post κs a r₂ x₂ → r₁ ≡ r₂
refused_at_agrees κs a r₁ r₂ x₁ x₂ p q = p ∙ sym q

pub fresh_agrees : (κs : _) (a : _) (r₁ r₂ : _) (x₁ x₂ : _) → fresh.Post κs a r₁ x₁ → fresh.Post κs a r₂ x₂
    → (r₁ ≡ r₂) × (x₁.1.0.now ≡ x₂.1.0.now)
fresh_agrees κs a r₁ r₂ x₁ x₂ p q = (p.0 ∙ sym q.0, p.1 ∙ sym q.1)

-- The state and the stack memory as well.
pub apply_agrees : (κs : _) (a : _) (r₁ r₂ : _) (x₁ x₂ : _) → apply.Post κs a r₁ x₁ → apply.Post κs a r₂ x₂
    → (r₁ ≡ r₂) × (x₁.0.now ≡ x₂.0.now) × (x₁.1.1.0.now ≡ x₂.1.1.0.now)
apply_agrees κs a r₁ r₂ x₁ x₂ p q = (p.0 ∙ sym q.0, p.1.0 ∙ sym q.1.0, p.1.1 ∙ sym q.1.1)

pub running_agrees : (κs : _) (a : _) (r₁ r₂ : _) (x₁ x₂ : _) → running.Post κs a r₁ x₁ → running.Post κs a r₂ x₂ → r₁ ≡ r₂
running_agrees κs a r₁ r₂ x₁ x₂ p q = p ∙ sym q

pub system_ceiling_agrees : (κs : _) (a : _) (r₁ r₂ : _) (x₁ x₂ : _) → system_ceiling.Post κs a r₁ x₁ → system_ceiling.Post κs a r₂ x₂ → r₁ ≡ r₂
system_ceiling_agrees κs a r₁ r₂ x₁ x₂ p q = p ∙ sym q

pub ceiling_agrees : (κs : _) (a : _) (r₁ r₂ : _) (x₁ x₂ : _) → ceiling.Post κs a r₁ x₁ → ceiling.Post κs a r₂ x₂ → r₁ ≡ r₂
ceiling_agrees κs a r₁ r₂ x₁ x₂ p q = p ∙ sym q

pub number_waiting_agrees : (κs : _) (a : _) (r₁ r₂ : _) (x₁ x₂ : _) → number_waiting.Post κs a r₁ x₁ → number_waiting.Post κs a r₂ x₂ → r₁ ≡ r₂
number_waiting_agrees κs a r₁ r₂ x₁ x₂ p q = p ∙ sym q

pub waiting_word_agrees : (κs : _) (a : _) (r₁ r₂ : _) (x₁ x₂ : _) → waiting_word.Post κs a r₁ x₁ → waiting_word.Post κs a r₂ x₂ → r₁ ≡ r₂
waiting_word_agrees κs a r₁ r₂ x₁ x₂ p q = p ∙ sym q

pub frame_start_agrees : (κs : _) (a : _) (r₁ r₂ : _) (x₁ x₂ : _) → frame_start.Post κs a r₁ x₁ → frame_start.Post κs a r₂ x₂ → r₁ ≡ r₂
frame_start_agrees κs a r₁ r₂ x₁ x₂ p q = p ∙ sym q

pub frame_length_agrees : (κs : _) (a : _) (r₁ r₂ : _) (x₁ x₂ : _) → frame_length.Post κs a r₁ x₁ → frame_length.Post κs a r₂ x₂ → r₁ ≡ r₂
frame_length_agrees κs a r₁ r₂ x₁ x₂ p q = p ∙ sym q
