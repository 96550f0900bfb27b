-- What the code's answers say, in the rules' numbers and values, and what they are to be.
use Rattle.std.specs.Prelude.{◌≡◌, List, [], ◌++◌, ℕ, zero, suc, length, drop, ltb, Result, Ok, Err}
use Rattle.rules.specs.Choice.{pick}
use Rattle.rules.specs.Table as R
use Rattle.table.specs.declared.RefusedAt.{RefusedAt}
use Rattle.table.specs.Refusals.{numbers_of, when_fit}
use Rattle.table.specs.Arrays.{table_of, arrays_of}
use Rattle.table.specs.Judging.{table_judged}
use Rattle.table.specs.declared.Table.{Table}
use Rattle.tagged_table.specs.declared.TableRead.{TableRead}
use Rattle.tagged_table.specs.Form.{Reading, or_else, table_bytes}

-- ---- reading

-- How a reading ended: the bytes that it took, or a refusal's number and place.
abbrev pub Ending : Type 0
Ending = Result ℕ (ℕ × ℕ)

-- What is answered by `Result<usize, RefusedAt>`.
abbrev pub end_said : Result ℕ RefusedAt → Ending
end_said (Ok n) = Ok n
end_said (Err e) = Err (numbers_of e)

-- How a reading ended, without its table.
abbrev pub end_of : Reading → Ending
end_of (Ok x) = Ok x.0
end_of (Err e) = Err e

-- The table handed back; a refused reading hands back a table of zeros.
abbrev pub table_in : Reading → R.Table
table_in (Ok x) = x.1
table_in (Err e) = record { size = 0; units = []; jobs = [] }

-- The answer of reading a table: its end and its table are those of the definition.
pub record Answers (r : TableRead) (x : Reading) : Type 0 where
  pub end : end_said r.end ≡ end_of x
  pub table : r.table ≡ arrays_of (table_in x)

-- ---- writing

-- Writing a table into a buffer of n bytes: counts out of range 2, then 4, 5, then 6 if it is shorter than the table's bytes.
unfoldable pub write_judged : Table → ℕ → ℕ
write_judged t n = or_else (table_judged t) (pick (ltb n (length (table_bytes (table_of t)))) 6 0)

-- What writing answers: the number of bytes written, or a refusal's number.
unfoldable pub write_answer : Table → ℕ → Result ℕ ℕ
write_answer t n = when_fit (write_judged t n) (length (table_bytes (table_of t)))

-- A refused write changes no output byte; an accepted one changes only the bytes written.
abbrev pub out_of : ℕ → Table → List ℕ → List ℕ
out_of zero t out = table_bytes (table_of t) ++ drop (length (table_bytes (table_of t))) out
out_of (suc n) t out = out

-- The output after writing a table.
unfoldable pub write_out : Table → List ℕ → List ℕ
write_out t out = out_of (write_judged t (length out)) t out
