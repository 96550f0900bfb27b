-- Owning a table tells the lengths of its arrays and the bounds of its numbers: the table's own are found by search, and each job's stand
-- where the array of jobs is owned, one after the other. (The check alone leaves this goal open: no search goes into an array of structs.)
use Rattle.std.proofs.Common.{◌≡◌, List, [], ◌∷◌, ℕ, zero, suc, ◌≤◌, ◌<◌, length, get_or, rules, arith}
use native.Mathlib.Nat.{not-suc-le-zero, le_of_suc-le-suc}
use mir.Val.{Val}
use denote.RattleType.{RattleType}
use denote.Shadow.{shadow}
use denote.Array.{each}
use denote.Laws.{Is}
use denote.Struct.Laws.{owed}
use Rattle.rules.specs.Limits.{max_jobs, max_resources, max_level, max_bytes}
use Rattle.table.specs.contracts.Table as Table
use Rattle.table.proofs.Table.TheLaws as Laws
use Rattle.table.specs.contracts.Job as Job
use Rattle.table.proofs.Job.TheLaws as JobLaws
use Rattle.table.specs.contracts.Level as Level
use Rattle.table.proofs.Level.TheLaws as LevelLaws
use Rattle.table.specs.declared.Job as Declared
use Rattle.table.specs.Arrays.{absent_job}
use Rattle.table.proofs.shape.Goals as goal

-- what holds of each element of an array that is owned
each_at : (R : RattleType) (Q : R.Denot → Type 0) → ((x : R.Denot) (vs : List Val) → Is R x vs → Q x)
    → (xs : List R.Denot) (us : List Val) → shadow (each R.Denot R.own_val xs us)
    → (d : R.Denot) (k : ℕ) → k < length xs → Q (get_or xs k d)
each_at R Q h [] us s d k l = absurd (not-suc-le-zero l)
each_at R Q h (x ∷ xs) [] s d k l = absurd s
each_at R Q h (x ∷ xs) (u ∷ us) s d zero l = h x (u ∷ []) s.0
each_at R Q h (x ∷ xs) (u ∷ us) s d (suc k) l = each_at R Q h xs us s.1 d k (omega arith)

pub returns-clause-shaped : goal.returns-clause-shaped
returns-clause-shaped c =
    let t = c.args.table in
    let all = owed Table.the_type Laws.the_laws t _ c.well_formed.0 in
    let n : length t.jobs ≡ max_jobs = search rules in
    let job : (Q : Declared.Job → Type 0) → ((x : Declared.Job) (vs : List Val) → Is Job.the_row x vs → Q x)
    → (k : ℕ) → k < max_jobs → Q (get_or t.jobs k absent_job) =
    λ Q h k l. each_at Job.the_row Q h t.jobs _ (all.1.1.1.0.1.1) absent_job k (omega arith) in
    record {
      size_fits = search rules;
      units_length = search rules;
      jobs_length = n;
      needs_length = job (λ x. length x.needs ≡ max_resources) (λ x vs p. (owed Job.the_type JobLaws.the_laws x vs p).1.1.0.1.0.1);
      level_fits = job (λ x. x.level.0 ≤ max_level) (λ x vs p. le_of_suc-le-suc (owed Level.the_type LevelLaws.the_laws x.level _ (owed Job.the_type JobLaws.the_laws x vs p).0).0.1);
      frame_fits = job (λ x. x.frame ≤ max_bytes) (λ x vs p. le_of_suc-le-suc (owed Job.the_type JobLaws.the_laws x vs p).1.0.1);
    }
