-- What is still to be stored, stored here, is the whole stored from the first place on; so is its number of bytes.
use Rattle.std.proofs.Common.{◌≡◌, ℕ, ◌+◌, ◌*◌, ◌<◌, length, get_or, drop}
use Rattle.std.proofs.lemmas.List.Edits.{sets}
use Rattle.state_form.specs.Items.{each}
use Rattle.state_form.proofs.item.put_items.Given as goal

abbrev pub invariant-loop-item : goal.invariant-loop-item
invariant-loop-item g l =
    record {
      place : l.end ≡ l.at + g.T.Item.WIDTH * l.item-index;
      room : length l.out ≡ length l.fn.out;
      widths : (k : ℕ) (d : g.row.T.Denot) → k < l.item-index → length (g.T.Item.bytes (get_or l.list k d)) ≡ g.T.Item.WIDTH;
      long : length (each g.T.Item.bytes l.list) ≡ g.T.Item.WIDTH * l.item-index + length (each g.T.Item.bytes (drop l.item-index l.list));
      left : sets l.out l.end (each g.T.Item.bytes (drop l.item-index l.list)) ≡ sets l.fn.out l.at (each g.T.Item.bytes l.list);
    }
