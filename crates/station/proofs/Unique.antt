-- One outcome: any two results that a contract of this crate allows are equal, and so are the states and the memory that it leaves. Each
-- contract is one equation of the result, or of its number, and a number has one word.
use Rattle.std.specs.Prelude.{◌≡◌, ℕ, ◌-◌, ◌≤◌, Result, Ok, Err, Option, Some, None}
use Rattle.std.proofs.Common.{sym, ap, ◌∙◌, arith}
use Rattle.table.specs.declared.JobNo.{JobNo}
use Rattle.table.specs.declared.Level.{Level}
use Rattle.table.specs.declared.Refusal.{Refusal}
use Rattle.table.proofs.Numbers.{number_once, number_not_zero, in_numbers_once, judged_once}
use Rattle.station.specs.declared.work.Station.{Station}
use Rattle.station.specs.Arrays.{who}
use Rattle.station.specs.Reading.{level_said, job_said}
use Rattle.station.specs.Sequence.{Applied}
use Rattle.station.specs.Frame.{Part, part_between}
use Rattle.station.proofs.StartedDefault.default.Reads as started_of_zeros
use Rattle.station.proofs.StateDefault.default.Reads as state_of_zeros
use Rattle.station.proofs.State.fresh.Reads as fresh
use Rattle.station.proofs.State.is_well_formed.Reads as is_well_formed
use Rattle.station.proofs.State.ceiling.Reads as ceiling
use Rattle.station.proofs.State.system_ceiling.Reads as system_ceiling
use Rattle.station.proofs.State.running.Reads as running
use Rattle.station.proofs.State.number_waiting.Reads as number_waiting
use Rattle.station.proofs.State.waiting_word.Reads as waiting_word
use Rattle.station.proofs.State.apply.Reads as apply
use Rattle.station.proofs.State.running_frame.Reads as running_frame
use Rattle.station.proofs.State.running_bytes.Reads as running_bytes
use Rattle.station.proofs.work.Station.new.Reads as at_work
use Rattle.station.proofs.work.Station.apply.Reads as worked
use Rattle.station.proofs.work.Station.running.Reads as runs_now
use Rattle.station.proofs.work.Station.system_ceiling.Reads as ceiling_now
use Rattle.station.proofs.work.Station.number_waiting.Reads as waiting_now
use Rattle.station.proofs.work.Station.waiting_word.Reads as word_now

-- ---- a word for each answer in numbers

pub level_once : (r s : Result Level Refusal) → level_said r ≡ level_said s → r ≡ s
level_once (Ok x) (Ok y) e = grind arith
level_once (Ok x) (Err y) e = grind arith
level_once (Err x) (Ok y) e = grind arith
level_once (Err x) (Err y) e = ap Err (number_once x y (grind arith))

pub job_once : (r s : Result (Option JobNo) Refusal) → job_said r ≡ job_said s → r ≡ s
job_once (Ok None) (Ok None) e = grind arith
job_once (Ok None) (Ok (Some y)) e = grind arith
job_once (Ok (Some x)) (Ok None) e = grind arith
job_once (Ok (Some x)) (Ok (Some y)) e = grind arith
job_once (Ok x) (Err y) e = grind arith
job_once (Err x) (Ok y) e = grind arith
job_once (Err x) (Err y) e = ap Err (number_once x y (grind arith))

-- ---- the public functions

pub started_of_zeros_agrees : (κs : _) (a : _) (r₁ r₂ : _) (x₁ x₂ : _) → started_of_zeros.Post κs a r₁ x₁ → started_of_zeros.Post κs a r₂ x₂ → r₁ ≡ r₂
started_of_zeros_agrees κs a r₁ r₂ x₁ x₂ p q = p ∙ sym q

pub state_of_zeros_agrees : (κs : _) (a : _) (r₁ r₂ : _) (x₁ x₂ : _) → state_of_zeros.Post κs a r₁ x₁ → state_of_zeros.Post κs a r₂ x₂ → r₁ ≡ r₂
state_of_zeros_agrees κs a r₁ r₂ x₁ x₂ p q = p ∙ sym q

pub fresh_agrees : (κs : _) (a : _) (r₁ r₂ : _) (x₁ x₂ : _) → fresh.Post κs a r₁ x₁ → fresh.Post κs a r₂ x₂
    → (r₁.made ≡ r₂.made) × (r₁.state ≡ r₂.state)
fresh_agrees κs a r₁ r₂ x₁ x₂ p q = (judged_once r₁.made r₂.made (p.0 ∙ sym q.0), p.1.0 ∙ sym q.1.0)

pub is_well_formed_agrees : (κs : _) (a : _) (r₁ r₂ : _) (x₁ x₂ : _) → is_well_formed.Post κs a r₁ x₁ → is_well_formed.Post κs a r₂ x₂ → r₁ ≡ r₂
is_well_formed_agrees κs a r₁ r₂ x₁ x₂ p q = p ∙ sym q

pub ceiling_agrees : (κs : _) (a : _) (r₁ r₂ : _) (x₁ x₂ : _) → ceiling.Post κs a r₁ x₁ → ceiling.Post κs a r₂ x₂ → r₁ ≡ r₂
ceiling_agrees κs a r₁ r₂ x₁ x₂ p q = level_once r₁ r₂ (p ∙ sym q)

pub system_ceiling_agrees : (κs : _) (a : _) (r₁ r₂ : _) (x₁ x₂ : _) → system_ceiling.Post κs a r₁ x₁ → system_ceiling.Post κs a r₂ x₂ → r₁ ≡ r₂
system_ceiling_agrees κs a r₁ r₂ x₁ x₂ p q = level_once r₁ r₂ (p ∙ sym q)

pub running_agrees : (κs : _) (a : _) (r₁ r₂ : _) (x₁ x₂ : _) → running.Post κs a r₁ x₁ → running.Post κs a r₂ x₂ → r₁ ≡ r₂
running_agrees κs a r₁ r₂ x₁ x₂ p q = job_once r₁ r₂ (p ∙ sym q)

pub number_waiting_agrees : (κs : _) (a : _) (r₁ r₂ : _) (x₁ x₂ : _) → number_waiting.Post κs a r₁ x₁ → number_waiting.Post κs a r₂ x₂ → r₁ ≡ r₂
number_waiting_agrees κs a r₁ r₂ x₁ x₂ p q = in_numbers_once r₁ r₂ (p ∙ sym q)

pub waiting_word_agrees : (κs : _) (a : _) (r₁ r₂ : _) (x₁ x₂ : _) → waiting_word.Post κs a r₁ x₁ → waiting_word.Post κs a r₂ x₂ → r₁ ≡ r₂
waiting_word_agrees κs a r₁ r₂ x₁ x₂ p q = in_numbers_once r₁ r₂ (p ∙ sym q)

-- The state and the stack memory that it leaves as well.
pub apply_agrees : (κs : _) (a : _) (r₁ r₂ : _) (x₁ x₂ : _) → apply.Post κs a r₁ x₁ → apply.Post κs a r₂ x₂
    → (r₁ ≡ r₂) × (x₁.0.now ≡ x₂.0.now) × (x₁.1.1.0.now ≡ x₂.1.1.0.now)
apply_agrees κs a r₁ r₂ x₁ x₂ p q = (job_once r₁ r₂ (p.0 ∙ sym q.0), p.1.0 ∙ sym q.1.0, p.1.1 ∙ sym q.1.1)

-- What `apply` answers and leaves is what a sequence of events (specs/Sequence) asks of each step, so demand 3 speaks of its results.
pub apply_applied : (κs : _) (a : _) (r : _) (x : _) → apply.Post κs a r x → Applied a.0.now a.1.1.0.now a.1.0 r x.0.now
apply_applied κs a r x p = record { answered = p.0; left = p.1.0 }

-- The frame's bytes and its address. (Where what is written through it stands is said by `LendsFrame`, which is one function of the state and the memory.)
pub running_frame_agrees : (κs : _) (a : _) (r₁ r₂ : _) (x₁ x₂ : _) → running_frame.Post κs a r₁ x₁ → running_frame.Post κs a r₂ x₂
    → (r₁.now ≡ r₂.now) × (r₁.ref_ptr ≡ r₂.ref_ptr)
running_frame_agrees κs a r₁ r₂ x₁ x₂ p q = (p.bytes ∙ sym q.bytes, p.address ∙ sym q.address)

-- Where the frame starts and ends: it ends no earlier than it starts, so its part tells both.
ends_once : (a₁ b₁ a₂ b₂ : ℕ) → a₁ ≤ b₁ → a₂ ≤ b₂ → part_between a₁ b₁ ≡ part_between a₂ b₂ → (a₁ ≡ a₂) × (b₁ ≡ b₂)
ends_once a₁ b₁ a₂ b₂ h k e =
    let s : a₁ ≡ a₂ = ap (λ (p : Part). p.start) e in
    let l : b₁ - a₁ ≡ b₂ - a₂ = ap (λ (p : Part). p.length) e in
    (s, omega (arith, h, k, s, l))

pub running_bytes_agrees : (κs : _) (a : _) (r₁ r₂ : _) (x₁ x₂ : _) → running_bytes.Post κs a r₁ x₁ → running_bytes.Post κs a r₂ x₂
    → (r₁.0 ≡ r₂.0) × (r₁.1 ≡ r₂.1)
running_bytes_agrees κs a r₁ r₂ x₁ x₂ p q = ends_once r₁.0 r₁.1 r₂.0 r₂.1 p.0.0 q.0.0 (sym p.1 ∙ q.1)

-- ---- a station at work

-- Its state, or the refusal. (Its ceiling is the one of that state.)
abbrev pub SameMade : Result Station Refusal → Result Station Refusal → Type 0
SameMade (Ok x) (Ok y) = x.state ≡ y.state
SameMade (Ok x) (Err y) = ⊥
SameMade (Err x) (Ok y) = ⊥
SameMade (Err x) (Err y) = x ≡ y

pub at_work_agrees : (κs : _) (a : _) (r₁ r₂ : _) (x₁ x₂ : _) → at_work.Post κs a r₁ x₁ → at_work.Post κs a r₂ x₂ → SameMade r₁ r₂
at_work_agrees κs a (Ok r₁) (Ok r₂) x₁ x₂ p q = p.1 ∙ sym q.1
at_work_agrees κs a (Ok r₁) (Err r₂) x₁ x₂ p q = number_not_zero r₂ (q ∙ p.0)
at_work_agrees κs a (Err r₁) (Ok r₂) x₁ x₂ p q = number_not_zero r₁ (p ∙ q.0)
at_work_agrees κs a (Err r₁) (Err r₂) x₁ x₂ p q = number_once r₁ r₂ (p ∙ sym q)

pub worked_agrees : (κs : _) (a : _) (r₁ r₂ : _) (x₁ x₂ : _) → worked.Post κs a r₁ x₁ → worked.Post κs a r₂ x₂
    → (r₁ ≡ r₂) × (x₁.0.now.state ≡ x₂.0.now.state)
worked_agrees κs a r₁ r₂ x₁ x₂ p q = (job_once r₁ r₂ (p.answered ∙ sym q.answered), p.arrays ∙ sym q.arrays)

-- A job, if there is one.
who_once : (x y : Option JobNo) → who x ≡ who y → x ≡ y
who_once None None e = grind arith
who_once None (Some y) e = grind arith
who_once (Some x) None e = grind arith
who_once (Some x) (Some y) e = grind arith

pub runs_now_agrees : (κs : _) (a : _) (r₁ r₂ : _) (x₁ x₂ : _) → runs_now.Post κs a r₁ x₁ → runs_now.Post κs a r₂ x₂ → r₁ ≡ r₂
runs_now_agrees κs a r₁ r₂ x₁ x₂ p q = who_once r₁ r₂ (p ∙ sym q)

pub ceiling_now_agrees : (κs : _) (a : _) (r₁ r₂ : _) (x₁ x₂ : _) → ceiling_now.Post κs a r₁ x₁ → ceiling_now.Post κs a r₂ x₂ → r₁ ≡ r₂
ceiling_now_agrees κs a r₁ r₂ x₁ x₂ p q = ap (λ (n : ℕ). record { 0 = n }) (p ∙ sym q)

pub waiting_now_agrees : (κs : _) (a : _) (r₁ r₂ : _) (x₁ x₂ : _) → waiting_now.Post κs a r₁ x₁ → waiting_now.Post κs a r₂ x₂ → r₁ ≡ r₂
waiting_now_agrees κs a r₁ r₂ x₁ x₂ p q = p ∙ sym q

pub word_now_agrees : (κs : _) (a : _) (r₁ r₂ : _) (x₁ x₂ : _) → word_now.Post κs a r₁ x₁ → word_now.Post κs a r₂ x₂ → r₁ ≡ r₂
word_now_agrees κs a r₁ r₂ x₁ x₂ p q = p ∙ sym q
