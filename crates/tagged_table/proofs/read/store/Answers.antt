-- Each arm by its lemma on what that field stores.
use Rattle.std.proofs.Common.{drop, get_or-drop, ap, sym, ◌∙◌, arith, inl, inr, ⊎_elim}
use Rattle.std.proofs.lemmas.Result.{err_from_is_err_and}
use Rattle.field.proofs.Numbers.{pair-drop}
use Rattle.tagged_table.specs.Tags.{number_of_tag}
use Rattle.tagged_table.proofs.Stored.{version_stored, version_refused, size_stored, size_refused, units_stored, units_refused, job_stored, job_refused, end_stored}
use Rattle.tagged_table.proofs.read.store.Goals as goal

pub returns-then-byte-ne-VERSION : goal.returns-then-byte-ne-VERSION
returns-then-byte-ne-VERSION c =
    let s = c.args.value.now.bytes.now in
    let a = c.args.value.now.at in
    rw c.refused.ensures
    (version_refused c.args.table.now (drop a s) c.args.place (number_of_tag c.args.tag) (ap number_of_tag c.in-Version.is)
    (λ e. c.if-byte-ne-VERSION.true (c.byte.ensures ∙ sym (get_or-drop a s 0 0) ∙ e)) c.args.table.now)

pub returns-else-byte-ne-VERSION : goal.returns-else-byte-ne-VERSION
returns-else-byte-ne-VERSION c =
    let s = c.args.value.now.bytes.now in
    let a = c.args.value.now.at in
    version_stored c.args.table.now (drop a s) c.args.place (number_of_tag c.args.tag) (ap number_of_tag c.in-Version.is) (get_or-drop a s 0 0 ∙ sym c.byte.ensures ∙ c.if-byte-ne-VERSION.false)

pub returns-then-size-eq0 : goal.returns-then-size-eq0
returns-then-size-eq0 c =
    let s = c.args.value.now.bytes.now in
    let a = c.args.value.now.at in
    rw c.refused-then-size-eq0.ensures
    (size_refused c.args.table.now (drop a s) c.args.place (number_of_tag c.args.tag) (ap number_of_tag c.in-Size.is) (pair-drop a s 0 ∙ sym c.pair-size.ensures ∙ c.if-size-eq0.true) c.args.table.now)

pub returns-else-size-eq0 : goal.returns-else-size-eq0
returns-else-size-eq0 c =
    let s = c.args.value.now.bytes.now in
    let a = c.args.value.now.at in
    size_stored c.args.table.now (drop a s) c.args.place (number_of_tag c.args.tag) (ap number_of_tag c.in-Size.is) c.pair-size.result (c.pair-size.ensures ∙ sym (pair-drop a s 0))
    (omega (arith, c.if-size-eq0.false)) (omega (arith, c.pair-size.type_inv))

pub returns-in-End : goal.returns-in-End
returns-in-End c = end_stored c.args.table.now (drop c.args.value.now.at c.args.value.now.bytes.now) c.args.place (number_of_tag c.args.tag) (ap number_of_tag c.in-End.is)

pub returns-then-units-eq0 : goal.returns-then-units-eq0
returns-then-units-eq0 c =
    let s = c.args.value.now.bytes.now in
    let a = c.args.value.now.at in
    let q = pair-drop a s 0 ∙ sym c.pair-units.ensures in
    rw c.refused-then-units-eq0.ensures
    (units_refused c.args.table.now (drop a s) c.args.place (number_of_tag c.args.tag) (ap number_of_tag c.in-Resource.is)
    (⊎_elim (λ e. inl (q ∙ e)) (λ e. inr (rw q e.1)) c.then-units-eq0.either) c.args.table.now)

pub returns-else-units-gt-UNITS : goal.returns-else-units-gt-UNITS
returns-else-units-gt-UNITS c =
    let s = c.args.value.now.bytes.now in
    let a = c.args.value.now.at in
    rw c.from.ensures
    (units_stored c.args.table.now (drop a s) c.args.place (number_of_tag c.args.tag) (ap number_of_tag c.in-Resource.is) c.pair-units.result (c.pair-units.ensures ∙ sym (pair-drop a s 0))
    (omega (arith, c.if-units-eq0.false)) (omega (arith, c.if-units-gt-UNITS.false)) (c.requires.room_for_units (ap number_of_tag c.in-Resource.is)))

pub returns-in_err-job-in-Job : goal.returns-in_err-job-in-Job
returns-in_err-job-in-Job c =
    let p = err_from_is_err_and c.from_residual.result c.from_residual.ensures.1 in
    rw (p.1, p.2)
    (job_refused c.args.table.now (drop c.args.value.now.at c.args.value.now.bytes.now) c.args.place (number_of_tag c.args.tag) (ap number_of_tag c.in-Job.is)
    c.listed_units.result.now c.listed_units.ensures c.in_err-job-in-Job.field-0.0 (sym c.in_err-job-in-Job.was ∙ c.read_job.ensures) c.args.table.now)

pub returns-in_ok-job-in-Job : goal.returns-in_ok-job-in-Job
returns-in_ok-job-in-Job c =
    rw c.from-in-Job.ensures
    (job_stored c.args.table.now (drop c.args.value.now.at c.args.value.now.bytes.now) c.args.place (number_of_tag c.args.tag) (ap number_of_tag c.in-Job.is)
    c.listed_units.result.now c.listed_units.ensures c.in_ok-job-in-Job.job (sym c.in_ok-job-in-Job.was ∙ c.read_job.ensures) (c.requires.room_for_a_job (ap number_of_tag c.in-Job.is)))
