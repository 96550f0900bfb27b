-- A station at work: what it is made as, and what an event does to it.
use Rattle.std.specs.Prelude.{◌≡◌, eqb, Result, Ok, Err, Option}
use Rattle.rules.specs.Choice.{pick}
use Rattle.rules.specs.State as Rules
use Rattle.rules.specs.Table as T
use Rattle.rules.specs.Events as R
use Rattle.table.specs.declared.JobNo.{JobNo}
use Rattle.table.specs.declared.Refusal.{Refusal}
use Rattle.table.specs.declared.Table.{Table}
use Rattle.table.specs.Arrays.{table_of}
use Rattle.table.specs.Judging.{table_judged}
use Rattle.table.specs.Refusals.{number_of, when_fit}
use Rattle.station.specs.declared.work.Station.{Station}
use Rattle.station.specs.Arrays.{state_of, arrays_of}
use Rattle.station.specs.Reading.{job_said}

-- The rules' table and state of a station.
abbrev pub table_in : Station → T.Table
table_in s = table_of s.state.table

abbrev pub state_in : Station → Rules.State
state_in s = state_of s.state

-- A station is made of a table that could be written; otherwise the refusal is 2, 4 or 5.
abbrev pub Made : Table → Result Station Refusal → Type 0
Made t (Ok s) = (table_judged t ≡ 0) × (s.state ≡ arrays_of t Rules.fresh)
Made t (Err r) = number_of r ≡ table_judged t

-- An event applied to a station: the answer, and the state after it.
pub record Worked (s : Station) (e : R.Event) (result : Result (Option JobNo) Refusal) (after : Station) : Type 0 where
  pub answered : job_said result ≡ when_fit (R.refusal (table_in s) (state_in s) e) (R.started_by (table_in s) (state_in s) e)
  pub arrays : after.state ≡ pick (eqb (R.refusal (table_in s) (state_in s) e) 0) (arrays_of s.state.table (R.after (table_in s) (state_in s) e)) s.state
  pub state : state_in after ≡ R.after (table_in s) (state_in s) e
  pub table : after.state.table ≡ s.state.table
