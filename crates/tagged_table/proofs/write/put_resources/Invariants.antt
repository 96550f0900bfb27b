-- What is still to be written, written here, is the whole written from the first place on.
use Rattle.std.proofs.Common.{◌≡◌, ◌+◌, ◌*◌, length, drop}
use Rattle.std.proofs.lemmas.List.Edits.{sets}
use Rattle.tagged_table.specs.Form.{each, resource_bytes}
use Rattle.tagged_table.proofs.write.put_resources.Given as goal

abbrev pub invariant-loop-number : goal.invariant-loop-number
invariant-loop-number l =
    record {
      place : l.end ≡ l.at + 5 * l.number-index;
      room : length l.out ≡ length l.fn.out;
      left : sets l.out l.end (each resource_bytes (drop l.number-index l.units)) ≡ sets l.fn.out l.at (each resource_bytes l.units);
    }
