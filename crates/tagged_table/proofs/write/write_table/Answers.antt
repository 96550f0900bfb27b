-- Refused by the judgement, refused for a short buffer, and written.
use Rattle.std.proofs.Common.{refl, List, ℕ, ◌+◌, ◌*◌, length, take, ◌≡◌, sym, ap, ◌∙◌, Ok}
use Rattle.std.proofs.lemmas.Result.{err_from_is_err_and}
use Rattle.std.proofs.lemmas.List.{length-map}
use Rattle.table.specs.Arrays.{job_in, table_of}
use Rattle.table.specs.Refusals.{number_of}
use Rattle.table.specs.Judging.{judged_number}
use Rattle.table.proofs.Numbers.{number_not_zero}
use Rattle.tagged_table.proofs.Judged.{end_behind, table_put, judged_refused, short_refused, all_written}
use Rattle.tagged_table.specs.Form.{table_bytes}
use Rattle.tagged_table.proofs.write.write_table.Goals as goal

pub returns-in_err-judge-clause-answer : goal.returns-in_err-judge-clause-answer
returns-in_err-judge-clause-answer c =
    let r = c.in_err-judge.field-0.0 in
    let p = err_from_is_err_and c.from_residual.result c.from_residual.ensures.1 in
    rw (p.1, p.2)
    (judged_refused c.args.table.now c.args.out.now (number_of r) (number_not_zero r) (ap judged_number (sym c.in_err-judge.was) ∙ c.judge.ensures)).0

pub returns-in_err-judge-clause-bytes : goal.returns-in_err-judge-clause-bytes
returns-in_err-judge-clause-bytes c =
    let r = c.in_err-judge.field-0.0 in
    (judged_refused c.args.table.now c.args.out.now (number_of r) (number_not_zero r) (ap judged_number (sym c.in_err-judge.was) ∙ c.judge.ensures)).1

pub returns-then-out-length-clause-answer : goal.returns-then-out-length-clause-answer
returns-then-out-length-clause-answer c =
    (short_refused c.args.table.now c.args.out.now (sym c.in_ok-judge.ensures) (rw c.table_length-length.ensures.bytes at c.if-out-length.true)).0

pub returns-then-out-length-clause-bytes : goal.returns-then-out-length-clause-bytes
returns-then-out-length-clause-bytes c =
    (short_refused c.args.table.now c.args.out.now (sym c.in_ok-judge.ensures) (rw c.table_length-length.ensures.bytes at c.if-out-length.true)).1

pub returns-clause-answer : goal.returns-clause-answer
returns-clause-answer c =
    ap Ok c.table_length-length.ensures.bytes
    ∙ (all_written c.args.table.now c.args.out.now (sym c.in_ok-judge.ensures) (rw c.table_length-length.ensures.bytes at c.if-out-length.false)).0

pub returns-clause-bytes : goal.returns-clause-bytes
returns-clause-bytes c =
    let w = (all_written c.args.table.now c.args.out.now (sym c.in_ok-judge.ensures) (rw c.table_length-length.ensures.bytes at c.if-out-length.false)).1 in
    let k = c.table_length-length.ensures in
    let t = c.args.table.now in
    let m = t.resource_count in
    let units : length c.listed_units.result.now ≡ m = ap length c.listed_units.ensures ∙ k.resources in
    let jobs : length c.listed_jobs.result.now ≡ t.job_count =
    ap length c.listed_jobs.ensures ∙ sym (length-map (take t.job_count t.jobs) (job_in m)) ∙ k.jobs in
    let end : c.put_jobs-end.result ≡ 9 + 5 * m + (6 + 2 * m) * t.job_count =
    rw (c.put_jobs-end.ensures.end, c.put_resources-end.ensures.end, units, jobs) refl in
    let all : length (table_bytes (table_of t)) ≡ c.put_jobs-end.result + 3 = sym k.bytes ∙ k.sum ∙ end_behind (5 * m) ((6 + 2 * m) * t.job_count) c.put_jobs-end.result end in
    let at = c.put_resources-end.ensures.end ∙ ap (λ (us : List ℕ). 9 + 5 * length us) c.listed_units.ensures in
    rw (
      c.put-3.ensures,
      c.put_jobs-end.ensures.bytes,
      c.put_resources-end.ensures.bytes,
      c.put_number.ensures,
      c.put-2.ensures,
      c.put.ensures,
      c.listed_jobs.ensures,
      c.listed_units.ensures,
    )
    (table_put (table_of t) c.args.out.now c.put_resources-end.result c.put_jobs-end.result at all ∙ w)
