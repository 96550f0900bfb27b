-- Runs of stores, one behind the other, that make up a job's field, and the fields of jobs.
-- Each run begins where the one before it ends, so that two are one: by `sets_next` of a field's stores.
use Rattle.std.specs.Prelude.{◌≡◌, List, [], ◌∷◌, ◌++◌, ℕ, ◌+◌, ◌*◌, ◌<◌, length, get_or, take, drop, map}
use Rattle.std.proofs.Common.{sym, ap, ◌∙◌, arith}
use Rattle.std.proofs.lemmas.List.{drop_more}
use Rattle.std.proofs.lemmas.List.Edits.{sets}
use Rattle.table.specs.declared.Job.{Job}
use Rattle.table.specs.Arrays.{job_in}
use Rattle.field.specs.Field.{two}
use Rattle.field.proofs.Stores.{sets_next}
use Rattle.tagged_table.specs.Form.{each, job_bytes}
use Rattle.tagged_table.proofs.Lengths.{pairs-length}

pub job_length : (job : Job) (m : ℕ) → length (take m job.needs) ≡ m → length (job_bytes (job_in m job)) ≡ 6 + 2 * m
job_length job m h = omega (arith, pairs-length (take m job.needs), h)

pub job_put : (out : List ℕ) (at m : ℕ) (job : Job) → length (take m job.needs) ≡ m
    → sets (sets (sets (sets out at (4 ∷ two (3 + 2 * m))) (at + 3) (job.level.0 ∷ [])) (at + 4) (two job.frame)) (at + 6) (each two (take m job.needs))
    ≡ sets out at (job_bytes (job_in m job))
job_put out at m job h =
    let ns = take m job.needs in
    let head = 4 ∷ two (3 + 2 * m) in
    let l : 3 + 2 * m ≡ length (job.level.0 ∷ two job.frame ++ each two ns) = omega (arith, pairs-length ns, h) in
    ap (λ (o : List ℕ). sets (sets o (at + 4) (two job.frame)) (at + 6) (each two ns)) (sets_next out at (at + 3) head (job.level.0 ∷ []) (omega arith))
    ∙ ap (λ (o : List ℕ). sets o (at + 6) (each two ns)) (sets_next out at (at + 4) (head ++ job.level.0 ∷ []) (two job.frame) (omega arith))
    ∙ sets_next out at (at + 6) (head ++ job.level.0 ∷ [] ++ two job.frame) (each two ns) (omega arith)
    ∙ ap (λ (k : ℕ). sets out at (4 ∷ two k ++ job.level.0 ∷ two job.frame ++ each two ns)) l

pub jobs_more : (out new : List ℕ) (at m : ℕ) (jobs : List Job) (i : ℕ) (d : Job) → i < length jobs
    → new ≡ sets out at (job_bytes (job_in m (get_or jobs i d))) → length (job_bytes (job_in m (get_or jobs i d))) ≡ 6 + 2 * m
    → sets new (at + (6 + 2 * m)) (each job_bytes (map (job_in m) (drop (i + 1) jobs))) ≡ sets out at (each job_bytes (map (job_in m) (drop i jobs)))
jobs_more out new at m jobs i d h e l =
    let j = job_in m (get_or jobs i d) in
    ap (λ (o : List ℕ). sets o (at + (6 + 2 * m)) (each job_bytes (map (job_in m) (drop (i + 1) jobs)))) e
    ∙ sets_next out at (at + (6 + 2 * m)) (job_bytes j) (each job_bytes (map (job_in m) (drop (i + 1) jobs))) (ap (λ (k : ℕ). at + k) (sym l))
    ∙ ap (λ (xs : List Job). sets out at (each job_bytes (map (job_in m) xs))) (sym (drop_more jobs i d h))
