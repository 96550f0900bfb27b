-- What is still to be written, written here, is the whole written from the first place on.
use Rattle.std.proofs.Common.{◌≡◌, ◌+◌, ◌*◌, length, drop}
use Rattle.std.proofs.lemmas.List.Edits.{sets}
use Rattle.field.specs.Field.{two}
use Rattle.tagged_table.specs.Form.{each}
use Rattle.tagged_table.proofs.write.put_needs.Given as goal

abbrev pub invariant-loop-need : goal.invariant-loop-need
invariant-loop-need l =
    record {
      place : l.end ≡ l.at + 2 * l.need-index;
      room : length l.out ≡ length l.fn.out;
      left : sets l.out l.end (each two (drop l.need-index l.needs)) ≡ sets l.fn.out l.at (each two l.needs);
    }
