-- Demand 3, of every table that could be written and every sequence of events: its three statements together.
use Rattle.std.specs.Prelude.{◌≡◌, refl, true, List, [], ◌∷◌, ℕ, ◌≤◌}
use Rattle.std.proofs.Common.{ap, le_refl, le_trans, eq-eqb}
use Rattle.std.proofs.lemmas.Bool.{false≢true}
use Rattle.rules.specs.Table.{Table, table_refusal}
use Rattle.rules.specs.State.{Entry, Started, is_running}
use Rattle.rules.specs.Waiting.{sooner}
use Rattle.rules.specs.Events.{Event}
use Rattle.rules.specs.Run.{moment}
use Rattle.rules.specs.Demand3.{lower_runs, WaitsThrough, OneHolder, Demand3}
use Rattle.rules.proofs.Order.{level_sooner}
use Rattle.rules.proofs.Enough.{enough, never_idle}
use Rattle.rules.proofs.Stretches.{Waits, Top, OneStretch, one_stretch}
use Rattle.rules.proofs.OneEntry.{one_entry, find}

-- who runs where a job of lower level than that of the waiting entry w runs
record Runner (t : Table) (fs : List Started) (w : Entry) : Type 0 where
  runner : Entry
  top : Top fs runner
  later : sooner t w runner ≡ true

runner_of : (t : Table) (fs : List Started) (j : ℕ) (w : Entry) → w.who ≡ j → lower_runs t fs j ≡ true → Runner t fs w
runner_of t [] j w q h = absurd (false≢true h)
runner_of t (f ∷ fs) j w q h = record { runner = f.entry; top = refl; later = level_sooner t w f.entry (rw q h) }

top_runs : (fs : List Started) (a : Entry) → Top fs a → is_running fs a.who ≡ true
top_runs [] a e = absurd e
top_runs (f ∷ fs) a e = eq-eqb _ _ (ap (λ (x : Entry). x.who) e)

blocked_once : (t : Table) → table_refusal t ≡ 0 → (es : ℕ → Event) (j p q : ℕ) → p ≤ q → WaitsThrough t es j p q
    → lower_runs t (moment t es p).stack j ≡ true → lower_runs t (moment t es q).stack j ≡ true → OneHolder t es p q
blocked_once t g es j p q l th x y =
    let r = find (moment t es p).waiting j (th p (le_refl _) l) in
    let w : Entry = r.0 in
    let u = runner_of t (moment t es p).stack j w r.2 x in
    let v = runner_of t (moment t es q).stack j w r.2 y in
    let waits : (m : ℕ) → p ≤ m → m ≤ q → Waits (moment t es m) w =
    λ m a b. one_entry t g es w p m a (λ n c d. rw r.2 (th n c (le_trans d b))) r.1 in
    let s : OneStretch t es p q u.runner v.runner =
    one_stretch t g es w u.runner v.runner p q l waits u.top u.later v.top v.later in
    record {
      job = u.runner.who;
      runs_first = top_runs (moment t es p).stack u.runner u.top;
      runs_last = rw s.same (top_runs (moment t es q).stack v.runner v.top);
      one_activation = s.activated;
      one_stretch = s.holds;
    }

pub demand_3 : (t : Table) → table_refusal t ≡ 0 → (es : ℕ → Event) → Demand3 t es
demand_3 t g es = record { enough = enough t g es; blocked_once = blocked_once t g es; never_idle = never_idle t g es }
