-- What is still to be written, written here, is the whole written from the first place on.
use Rattle.std.proofs.Common.{◌≡◌, ◌+◌, ◌*◌, length, drop, map}
use Rattle.std.proofs.lemmas.List.Edits.{sets}
use Rattle.table.specs.Arrays.{job_in}
use Rattle.tagged_table.specs.Form.{each, job_bytes}
use Rattle.tagged_table.proofs.write.put_jobs.Given as goal

abbrev pub invariant-loop-job : goal.invariant-loop-job
invariant-loop-job l =
    record {
      place : l.end ≡ l.at + (6 + 2 * l.resources) * l.job-index;
      room : length l.out ≡ length l.fn.out;
      left : sets l.out l.end (each job_bytes (map (job_in l.resources) (drop l.job-index l.jobs))) ≡ sets l.fn.out l.at (each job_bytes (map (job_in l.resources) l.jobs));
    }
