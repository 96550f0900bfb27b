-- What the parts of reading a table answer.
use Rattle.std.specs.Prelude.{◌≡◌, true, false, List, ℕ, length, Result, Ok, Err}
use Rattle.rules.specs.Choice.{pick}
use Rattle.rules.specs.Table as R
use Rattle.rules.specs.Table.{job_good, stack_good}
use Rattle.table.specs.declared.Job.{Job}
use Rattle.table.specs.declared.Table.{Table}
use Rattle.table.specs.declared.RefusedAt.{RefusedAt}
use Rattle.table.specs.declared.Refusal.TheVariants.{ValueOutOfRange, StackTooSmall}
use Rattle.table.specs.Arrays.{job_arrays, arrays_of}
use Rattle.tagged_table.specs.Form.{Sofar, good, grown, job_read}

-- The job in the value v, for a table with these units: its arrays, or 4 at the field's place.
abbrev pub job_answer : List ℕ → List ℕ → ℕ → Result Job RefusedAt
job_answer units v place =
    pick (job_good units (job_read (length units) v))
    (Ok (job_arrays (job_read (length units) v)))
    (Err (record { refusal = ValueOutOfRange; place = place }))

-- At the end field: 5 if the worst stack is greater than the stack size, with the place after the field, else that place.
abbrev pub end_answer : R.Table → ℕ → Result ℕ RefusedAt
end_answer t place = pick (stack_good t) (Ok place) (Err (record { refusal = StackTooSmall; place = place }))

-- What storing a field's value does, where the table's arrays hold what has been read so far: 4 at the field's place if the value is out of
-- range, else they hold what is known after the field.
pub record Stores (old new : Table) (tag : ℕ) (v : List ℕ) (place : ℕ) (result : Result (Unit {0}) RefusedAt) : Type 0 where
  pub out_of_range : (p : Sofar) → old ≡ arrays_of p.table → good p tag v ≡ false → result ≡ Err (record { refusal = ValueOutOfRange; place = place })
  pub in_range : (p : Sofar) → old ≡ arrays_of p.table → good p tag v ≡ true → (result ≡ Ok tt) × (new ≡ arrays_of (grown p tag v).table)
