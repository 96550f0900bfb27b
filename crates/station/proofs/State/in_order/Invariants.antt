-- Whether the levels that are left never rise from the last one on decides. (The first is no greater than the greatest.)
use Rattle.std.specs.Prelude.{◌≡◌, ◌≤◌, map, drop}
use Rattle.rules.specs.Limits.{max_level}
use Rattle.rules.specs.WellFormed.{in_order}
use Rattle.table.specs.Arrays.{table_of}
use Rattle.station.specs.Arrays.{entry_of, state_of}
use Rattle.station.proofs.Formed.{first_level, falls_from}
use Rattle.station.proofs.State.in_order.Given as goal

abbrev pub invariant-loop-job : goal.invariant-loop-job
invariant-loop-job l =
    let t = table_of l.self.table in
    let left = map entry_of (drop l.job-index l.job-items) in
    first_level t left ≤ max_level → falls_from t l.before.0 left ≡ in_order t (state_of l.self).waiting
