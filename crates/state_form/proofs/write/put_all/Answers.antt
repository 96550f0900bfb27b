-- Each array has the length that its type says, so each field stands where the one before it ends.
use Rattle.std.proofs.Common.{rules, ◌≡◌, ◌*◌, ◌∙◌, ℕ, ap, length}
use Rattle.rules.specs.Limits.{max_jobs, max_resources}
use Rattle.state_form.specs.Form.{job_size, started_size}
use Rattle.state_form.proofs.Stored.{Long, state_long, state_put}
use Rattle.state_form.proofs.Fullness.{jobs_full, places_full}
use Rattle.state_form.proofs.write.put_all.Goals as goal

long : (c : goal.After-slice_known-10-1) → Long c.args.state.now
long c =
    let s = c.args.state.now in
    let units : length s.table.units ≡ max_resources = search rules in
    let jobs : length s.table.jobs ≡ max_jobs = search rules in
    let stack : length s.stack ≡ max_jobs = search rules in
    let waiting : length s.waiting ≡ max_jobs = search rules in
    record {
      units = c.put_items.ensures.width ∙ ap (λ (k : ℕ). 2 * k) units;
      jobs = c.put_items-2.ensures.width ∙ ap (λ (k : ℕ). job_size * k) jobs;
      stack = c.put_items-3.ensures.width ∙ ap (λ (k : ℕ). started_size * k) stack;
      waiting = c.put_items-4.ensures.width ∙ ap (λ (k : ℕ). 1 * k) waiting;
    }

pub returns-clause-full : goal.returns-clause-full
returns-clause-full c =
    let s = c.args.state.now in
    record {
      units = search rules;
      jobs = search rules;
      needs = jobs_full s.table.jobs c.put_items-2.ensures.widths;
      stack = search rules;
      held = places_full s.stack c.put_items-3.ensures.widths;
      waiting = search rules;
    }

pub returns-clause-width : goal.returns-clause-width
returns-clause-width c = state_long c.args.state.now (long c)

pub returns-clause-bytes : goal.returns-clause-bytes
returns-clause-bytes c =
    rw (
      c.put-5.ensures,
      c.put_items-4.ensures.bytes,
      c.put-4.ensures,
      c.put_items-3.ensures.bytes,
      c.put-3.ensures,
      c.put_items-2.ensures.bytes,
      c.put-2.ensures,
      c.put_items.ensures.bytes,
      c.put.ensures,
    )
    (state_put c.args.state.now (long c) c.args.out.now)
