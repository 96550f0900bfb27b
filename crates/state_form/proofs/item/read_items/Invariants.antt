-- The items read so far, and then those that are still to be read from here on, are the whole.
use Rattle.std.proofs.Common.{◌≡◌, ◌++◌, ◌+◌, ◌-◌, ◌*◌, length, take}
use Rattle.state_form.specs.Items.{items}
use Rattle.state_form.proofs.item.read_items.Given as goal

abbrev pub invariant-loop-i : goal.invariant-loop-i
invariant-loop-i g l =
    record {
      place : l.next ≡ l.at + g.T.Item.WIDTH * l.i;
      room : length l.list ≡ length l.fn.list;
      left : take l.i l.list ++ items g.T.Item.read g.T.Item.WIDTH (length l.fn.list - l.i) l.bytes l.next ≡ items g.T.Item.read g.T.Item.WIDTH (length l.fn.list) l.bytes l.at;
    }
