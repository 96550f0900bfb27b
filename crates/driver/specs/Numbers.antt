-- The one number that each exported function answers.
use Rattle.std.specs.Prelude.{ℕ, ◌+◌, ◌^◌, Result, Ok, Err}
use Rattle.std.proofs.Math.Option as maybe

-- In 64 bits: a refusal is 2^32 and its number, above every answer.
abbrev pub refused : ℕ → ℕ
refused n = 2 ^ 32 + n

-- A number, or the refusal, in 64 bits.
abbrev pub in_64 : Result ℕ ℕ → ℕ
in_64 (Ok n) = n
in_64 (Err e) = refused e

-- In 32 bits: an answer is 256 and the number, above every refusal.
abbrev pub answered : ℕ → ℕ
answered n = 256 + n

-- A number, or the refusal, in 32 bits.
abbrev pub in_32 : Result ℕ ℕ → ℕ
in_32 (Ok n) = answered n
in_32 (Err e) = e

-- A job, 0 for none, or the refusal, in 32 bits.
abbrev pub job_in_32 : Result (maybe.Option ℕ) ℕ → ℕ
job_in_32 (Ok maybe.none) = 0
job_in_32 (Ok (maybe.some j)) = answered j
job_in_32 (Err e) = e
