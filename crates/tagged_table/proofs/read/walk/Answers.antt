-- Each exit by the field's first bad test, and the next place by what a good field leaves.
use Rattle.std.proofs.Common.{sym, ap, ◌∙◌}
use Rattle.field.proofs.Walk.{head_is}
use Rattle.tagged_table.specs.Answers.{end_said, end_of}
use Rattle.tagged_table.specs.Tags.{number_of_tag, number_of_last}
use Rattle.tagged_table.proofs.Tags.{no_tag_follows, head_tagged, end_known}
use Rattle.tagged_table.proofs.Left.{left_start, stop_short, stop_tag, stop_length, stop_cut, stop_range, stop_end, ends_on_ok, go_on}
use Rattle.tagged_table.proofs.read.walk.Goals as goal

pub walk-init : goal.walk-init
walk-init c = left_start c.args.input.now c.args.table.now c.requires

pub walk-preserved : goal.walk-preserved
walk-preserved c =
    let w = c.walk in
    let h = c.in-Some.field-0 in
    let i = head_tagged c.args.input.now w.at h c.in-Ok.tag (sym c.in-Some.is ∙ c.header.ensures) (sym c.in-Ok.is ∙ c.try_from.ensures) in
    rw c.from.ensures
    (go_on c.args.input.now w.table (number_of_last w.last) w.at w.invariant (number_of_tag c.in-Ok.tag) h.length i (sym c.may_follow.ensures ∙ c.if-not-may_follow.false)
    (c.if-length-length_wanted.false ∙ c.length_wanted.ensures) c.in-Some-value.start (sym c.in-Some-value.is ∙ c.value.ensures)
    c.store.new.table c.store.result c.store.ensures c.in_default-store.is (λ e. c.in_default-tag.not-End (end_known c.in-Ok.tag e)))

pub returns-in_default-clause-end : goal.returns-in_default-clause-end
returns-in_default-clause-end c =
    let w = c.walk in
    ap end_said c.refused.ensures
    ∙ ap end_of (sym (stop_short c.args.input.now w.table (number_of_last w.last) w.at w.invariant (sym c.in_default.is ∙ c.header.ensures)))

pub returns-in_default-try_from-clause-end : goal.returns-in_default-try_from-clause-end
returns-in_default-try_from-clause-end c =
    let w = c.walk in
    let h = c.in-Some.field-0 in
    let i = head_is c.args.input.now w.at h.tag h.length (sym c.in-Some.is ∙ c.header.ensures) in
    ap end_said c.refused-in_default-try_from.ensures
    ∙ ap end_of (sym (stop_tag c.args.input.now w.table (number_of_last w.last) w.at w.invariant h.tag h.length i
    (no_tag_follows h.tag c.in_default-try_from.field-0 (sym c.in_default-try_from.is ∙ c.try_from.ensures) (number_of_last w.last) w.table.resource_count w.table.job_count)))

pub returns-then-not-may_follow-clause-end : goal.returns-then-not-may_follow-clause-end
returns-then-not-may_follow-clause-end c =
    let w = c.walk in
    let h = c.in-Some.field-0 in
    let i = head_tagged c.args.input.now w.at h c.in-Ok.tag (sym c.in-Some.is ∙ c.header.ensures) (sym c.in-Ok.is ∙ c.try_from.ensures) in
    ap end_said c.refused-then-not-may_follow.ensures
    ∙ ap end_of (sym (stop_tag c.args.input.now w.table (number_of_last w.last) w.at w.invariant (number_of_tag c.in-Ok.tag) h.length i (sym c.may_follow.ensures ∙ c.if-not-may_follow.true)))

pub returns-then-length-length_wanted-clause-end : goal.returns-then-length-length_wanted-clause-end
returns-then-length-length_wanted-clause-end c =
    let w = c.walk in
    let h = c.in-Some.field-0 in
    let i = head_tagged c.args.input.now w.at h c.in-Ok.tag (sym c.in-Some.is ∙ c.header.ensures) (sym c.in-Ok.is ∙ c.try_from.ensures) in
    ap end_said c.refused-then-length-length_wanted.ensures
    ∙ ap end_of (sym (stop_length c.args.input.now w.table (number_of_last w.last) w.at w.invariant (number_of_tag c.in-Ok.tag) h.length i (sym c.may_follow.ensures ∙ c.if-not-may_follow.false)
    (λ e. c.if-length-length_wanted.true (e ∙ sym c.length_wanted.ensures))))

pub returns-in_default-value-clause-end : goal.returns-in_default-value-clause-end
returns-in_default-value-clause-end c =
    let w = c.walk in
    let h = c.in-Some.field-0 in
    let i = head_tagged c.args.input.now w.at h c.in-Ok.tag (sym c.in-Some.is ∙ c.header.ensures) (sym c.in-Ok.is ∙ c.try_from.ensures) in
    ap end_said c.refused-in_default-value.ensures
    ∙ ap end_of (sym (stop_cut c.args.input.now w.table (number_of_last w.last) w.at w.invariant (number_of_tag c.in-Ok.tag) h.length i (sym c.may_follow.ensures ∙ c.if-not-may_follow.false)
    (c.if-length-length_wanted.false ∙ c.length_wanted.ensures) (sym c.in_default-value.is ∙ c.value.ensures)))

pub returns-in-Err-clause-end : goal.returns-in-Err-clause-end
returns-in-Err-clause-end c =
    let w = c.walk in
    let h = c.in-Some.field-0 in
    let i = head_tagged c.args.input.now w.at h c.in-Ok.tag (sym c.in-Some.is ∙ c.header.ensures) (sym c.in-Ok.is ∙ c.try_from.ensures) in
    ap end_of (sym (stop_range c.args.input.now w.table (number_of_last w.last) w.at w.invariant (number_of_tag c.in-Ok.tag) h.length i (sym c.may_follow.ensures ∙ c.if-not-may_follow.false)
    (c.if-length-length_wanted.false ∙ c.length_wanted.ensures) c.in-Some-value.start (sym c.in-Some-value.is ∙ c.value.ensures)
    c.store.new.table c.store.result c.store.ensures c.in-Err.bad c.in-Err.is))

pub returns-in-End-clause-end : goal.returns-in-End-clause-end
returns-in-End-clause-end c =
    let w = c.walk in
    let h = c.in-Some.field-0 in
    let i = head_tagged c.args.input.now w.at h c.in-Ok.tag (sym c.in-Some.is ∙ c.header.ensures) (sym c.in-Ok.is ∙ c.try_from.ensures) in
    ap end_said c.ended.ensures
    ∙ (stop_end c.args.input.now w.table (number_of_last w.last) w.at w.invariant (number_of_tag c.in-Ok.tag) h.length i (sym c.may_follow.ensures ∙ c.if-not-may_follow.false)
    (c.if-length-length_wanted.false ∙ c.length_wanted.ensures) c.in-Some-value.start (sym c.in-Some-value.is ∙ c.value.ensures)
    c.store.new.table c.store.result c.store.ensures c.in_default-store.is (ap number_of_tag c.in-End.is)).end

pub returns-in-End-clause-read : goal.returns-in-End-clause-read
returns-in-End-clause-read c =
    let w = c.walk in
    let h = c.in-Some.field-0 in
    let i = head_tagged c.args.input.now w.at h c.in-Ok.tag (sym c.in-Some.is ∙ c.header.ensures) (sym c.in-Ok.is ∙ c.try_from.ensures) in
    rw c.ended.ensures
    (ends_on_ok c.args.input.now c.store.new.table c.in-Some-value.start
    (stop_end c.args.input.now w.table (number_of_last w.last) w.at w.invariant (number_of_tag c.in-Ok.tag) h.length i (sym c.may_follow.ensures ∙ c.if-not-may_follow.false)
    (c.if-length-length_wanted.false ∙ c.length_wanted.ensures) c.in-Some-value.start (sym c.in-Some-value.is ∙ c.value.ensures)
    c.store.new.table c.store.result c.store.ensures c.in_default-store.is (ap number_of_tag c.in-End.is)))
