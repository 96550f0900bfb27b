-- A job and a place of the stack that take the bytes of their kind have an entry for each resource: two bytes for each entry.
use Rattle.std.specs.Prelude.{◌≡◌, refl, All, List, [], ◌∷◌, ℕ, ◌*◌, length, get_or}
use Rattle.std.proofs.Common.{arith}
use Rattle.table.specs.declared.Job.{Job}
use Rattle.station.specs.declared.Started.{Started}
use Rattle.field.specs.Field.{two}
use Rattle.state_form.specs.Items.{each}
use Rattle.state_form.specs.Form.{job_size, job_bytes, JobFull, started_size, started_bytes, StartedFull}

two_each : (ns : List ℕ) → length (each two ns) ≡ 2 * length ns
two_each [] = refl
two_each (n ∷ ns) = omega (arith, two_each ns)

job_full : (j : Job) → length (job_bytes j) ≡ job_size → JobFull j
job_full j e = omega (arith, e, two_each j.needs)

place_full : (f : Started) → length (started_bytes f) ≡ started_size → StartedFull f
place_full f e = omega (arith, e, two_each f.held)

pub jobs_full : (js : List Job) → All (λ j. length (job_bytes j) ≡ job_size) js → All JobFull js
jobs_full js a k d l = job_full (get_or js k d) (a k d l)

pub places_full : (fs : List Started) → All (λ f. length (started_bytes f) ≡ started_size) fs → All StartedFull fs
places_full fs a k d l = place_full (get_or fs k d) (a k d l)
