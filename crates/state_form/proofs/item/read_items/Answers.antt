-- One item more.
use Rattle.std.proofs.Common.{◌∙◌}
use Rattle.std.proofs.lemmas.List.{length-set}
use Rattle.state_form.proofs.Listed.{place_more, items_more}
use Rattle.state_form.proofs.item.read_items.Goals as goal

pub loop-i-preserved : goal.loop-i-preserved
loop-i-preserved g c =
    let i = c.loop-i.invariant in
    let w = g.T.Item.WIDTH in
    record {
      place = rw (c.WIDTH-next.ensures, i.place) (place_more c.args.at w c.loop-i.i);
      room = length-set c.loop-i.list c.loop-i.i c.read_at.result ∙ i.room;
      left =
          rw (c.WIDTH-next.ensures, c.read_at.ensures)
          (items_more g.T.Item.read w c.args.bytes.now c.loop-i.next _ c.loop-i.i c.loop-i.list c.loop-i-test.true i.room ∙ i.left);
    }
