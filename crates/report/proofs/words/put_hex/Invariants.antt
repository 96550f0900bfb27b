-- The digits that are still to be stored, stored here, are all of them stored from the first place on.
use Rattle.std.proofs.Common.{◌≡◌, ◌+◌, ◌-◌, length}
use Rattle.std.proofs.lemmas.List.Edits.{sets}
use Rattle.report.specs.Text.{hex_digits, hex_word}
use Rattle.report.proofs.words.put_hex.Given as goal

abbrev pub invariant-loop-digit : goal.invariant-loop-digit
invariant-loop-digit l =
    record {
      room : length l.out ≡ length l.fn.out;
      left : sets l.out (l.at + l.digit) (hex_digits (8 - l.digit) l.number) ≡ sets l.fn.out l.at (hex_word l.number);
    }
