-- One need more, a need above its units, and no need left.
use Rattle.std.proofs.Common.{◌≡◌, length, drop, get_or, get_or-drop, sym, ◌∙◌, ap, arith}
use Rattle.rules.specs.Limits.{max_resources}
use Rattle.table.specs.Arrays.{padded}
use Rattle.field.proofs.Numbers.{pair-drop}
use Rattle.std.proofs.lemmas.List.{take_all}
use Rattle.tagged_table.specs.Form.{pairs}
use Rattle.tagged_table.proofs.Needs.{length-pairs, one_above, one_within, none_left, need_read, need_put, job_in_range, need_out_of_range}
use Rattle.tagged_table.proofs.read.read_job.Goals as goal

pub loop-r-preserved : goal.loop-r-preserved
loop-r-preserved c =
    let i = c.loop-r.invariant in
    let us = c.args.units.now in
    let s = c.args.value.now.bytes.now in
    let a = c.args.value.now.at in
    let ns = pairs (length us) (drop 3 (drop a s)) in
    let n : length ns ≡ length us = length-pairs (length us) (drop 3 (drop a s)) in
    let need : c.pair-need.result ≡ get_or ns c.loop-r.r 0 = need_read s a (length us) c.loop-r.r c.pair-need.result c.loop-r-test.true c.pair-need.ensures in
    record {
      level = i.level;
      frame = i.frame;
      needs = need_put ns c.loop-r.job.needs c.loop-r.r c.pair-need.result (omega arith) (omega (arith, c.requires)) i.needs need;
      fits = sym (one_within us ns c.loop-r.r (omega arith) (omega arith) (omega (arith, c.if-most-need.false))) ∙ i.fits;
    }

pub returns-then-most-need : goal.returns-then-most-need
returns-then-most-need c =
    let us = c.args.units.now in
    let s = c.args.value.now.bytes.now in
    let a = c.args.value.now.at in
    let r = c.loop-r.r in
    let ns = pairs (length us) (drop 3 (drop a s)) in
    let n : length ns ≡ length us = length-pairs (length us) (drop 3 (drop a s)) in
    let need : c.pair-need.result ≡ get_or ns r 0 = need_read s a (length us) r c.pair-need.result c.loop-r-test.true c.pair-need.ensures in
    let above = one_above us ns r (omega arith) (omega arith) (omega (arith, c.if-most-need.true)) in
    c.refused-then-most-need.ensures
    ∙ need_out_of_range us (drop a s) c.args.place c.byte.result c.pair.result (c.byte.ensures ∙ sym (get_or-drop a s 0 0)) (c.pair.ensures ∙ sym (pair-drop a s 1))
    (omega (arith, c.if-job-eq0.false)) (omega (arith, c.byte.type_inv)) (omega (arith, c.if-job-eq0-2.false)) (omega (arith, c.pair.type_inv))
    (sym c.loop-r.invariant.fits ∙ above)

pub returns-after-loop-r : goal.returns-after-loop-r
returns-after-loop-r c =
    let us = c.args.units.now in
    let s = c.args.value.now.bytes.now in
    let a = c.args.value.now.at in
    let r = c.loop-r.r in
    let i = c.loop-r.invariant in
    let ns = pairs (length us) (drop 3 (drop a s)) in
    let n : length ns ≡ length us = length-pairs (length us) (drop 3 (drop a s)) in
    job_in_range us (drop a s) c.args.place c.byte.result c.pair.result (c.byte.ensures ∙ sym (get_or-drop a s 0 0)) (c.pair.ensures ∙ sym (pair-drop a s 1))
    (omega (arith, c.if-job-eq0.false)) (omega (arith, c.byte.type_inv)) (omega (arith, c.if-job-eq0-2.false)) (omega (arith, c.pair.type_inv))
    (sym i.fits ∙ none_left us ns r (omega (arith, c.loop-r-test.false)) (omega (arith, c.loop-r-test.false)))
    c.loop-r.job i.level i.frame (i.needs ∙ ap (padded 0 max_resources) (take_all r ns (omega (arith, c.loop-r-test.false))))
