-- One digit more, and the byte behind the last.
use Rattle.std.proofs.Common.{refl, arith, rules, ◌∙◌}
use Rattle.report.specs.Text.{hex_word}
use Rattle.report.proofs.Stored.{hex_more, hex_put}
use Rattle.report.proofs.words.put_hex.Goals as goal

pub loop-digit-init : goal.loop-digit-init
unfolding hex_word
loop-digit-init c = search rules

pub loop-digit-preserved : goal.loop-digit-preserved
loop-digit-preserved c =
    let d = c.loop-digit in
    record {
      room = search rules;
      left = rw c.hex_digit.ensures (hex_more d.out c.args.at d.digit c.args.number c.loop-digit-test.true ∙ d.invariant.left);
    }

pub returns-clause-end : goal.returns-clause-end
unfolding hex_word
returns-clause-end c = refl

pub returns-clause-bytes : goal.returns-clause-bytes
returns-clause-bytes c =
    let d = c.loop-digit in
    hex_put d.out c.args.out.now c.args.at d.digit c.args.behind c.args.number (omega arith) d.invariant.left
