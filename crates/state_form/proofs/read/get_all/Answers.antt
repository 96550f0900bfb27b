-- Every array is filled, as long as its type says.
use Rattle.std.proofs.Common.{refl}
use Rattle.state_form.specs.Form.{state_read}
use Rattle.state_form.proofs.read.get_all.Goals as goal

pub returns : goal.returns
unfolding state_read
returns c =
    rw (
      c.pair-state.ensures,
      c.read_items.ensures,
      c.byte-state.ensures,
      c.read_items-2.ensures,
      c.byte-state-2.ensures,
      c.read_items-3.ensures,
      c.byte.ensures,
      c.read_items-4.ensures,
      c.byte-2.ensures,
      c.default-state.ensures,
    )
    refl
