-- Demand 3 of a station at work: after any events its state is the rules' moment, since each event leaves the rules' state after it; so what
-- the rules prove of their moments holds of it, and 18 is never answered.
use Rattle.std.specs.Prelude.{◌≡◌, ◌≢◌, ℕ, zero, suc, Result, Err, Option}
use Rattle.std.proofs.Common.{ap, ap₂, sym, ◌∙◌}
use Rattle.rules.specs.State as Rules
use Rattle.rules.specs.Events as R
use Rattle.rules.specs.Run.{moment}
use Rattle.rules.specs.Demand3 as D
use Rattle.rules.proofs.Demand as Proved
use Rattle.table.specs.declared.JobNo.{JobNo}
use Rattle.table.specs.declared.Refusal.{Refusal}
use Rattle.table.specs.declared.Refusal.TheVariants.{AboveFree}
use Rattle.table.specs.declared.Table.{Table}
use Rattle.table.specs.Arrays.{table_of}
use Rattle.table.specs.Judging.{table_judged}
use Rattle.table.proofs.Fit.{fit_written}
use Rattle.station.specs.declared.State.{State}
use Rattle.station.specs.declared.work.Station.{Station}
use Rattle.station.specs.Arrays.{state_of, arrays_of, Roomy}
use Rattle.station.specs.Working.{state_in, Worked}
use Rattle.station.proofs.Demand.{number_18}

module _ (t : Table) (r : Roomy t) (g : table_judged t ≡ 0) (w : ℕ → Station) (es : ℕ → R.Event) (answers : ℕ → Result (Option JobNo) Refusal)
    (made : (w 0).state ≡ arrays_of t Rules.fresh) (works : (m : ℕ) → Worked (w m) (es m) (answers m) (w (suc m))) where
  table_kept : (m : ℕ) → (w m).state.table ≡ t
  table_kept zero = ap (λ (s : State). s.table) made
  table_kept (suc m) = (works m).table ∙ table_kept m

  -- Its state is the rules' moment.
  pub moment_is : (m : ℕ) → state_in (w m) ≡ moment (table_of t) es m
  unfolding moment
  moment_is zero = ap state_of made
  moment_is (suc m) = (works m).state ∙ ap₂ (λ t' s. R.after (table_of t') s (es m)) (table_kept m) (moment_is m)

  -- So demand 3 holds of it ..
  pub demand_3_at_work : D.Demand3 (table_of t) es
  demand_3_at_work = Proved.demand_3 (table_of t) (fit_written t g r.jobs) es

  -- .. and 18 is never answered.
  pub never_18_at_work : (m : ℕ) → answers m ≢ Err AboveFree
  never_18_at_work m h =
      demand_3_at_work.enough m (es m)
      (sym (ap₂ (λ t' s. R.refusal (table_of t') s (es m)) (table_kept m) (moment_is m)) ∙ number_18 (answers m) _ _ (works m).answered h)
