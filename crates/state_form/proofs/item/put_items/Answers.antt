-- One item more.
use Rattle.std.proofs.Common.{rules, ◌∙◌}
use Rattle.state_form.proofs.Listed.{place_more, long_more, widths_more, each_long, each_more}
use Rattle.state_form.proofs.item.put_items.Goals as goal

pub loop-item-preserved : goal.loop-item-preserved
loop-item-preserved g c =
    let i = c.loop-item.invariant in
    let w = g.T.Item.WIDTH in
    let k = c.loop-item.item-index in
    let xs = c.args.list.now in
    let x = c.item-item.result in
    let put = c.put_at.ensures in
    record {
      place = rw (c.WIDTH-end.ensures, i.place) (place_more c.args.at w k);
      room = search rules;
      widths = widths_more g.T.Item.bytes w xs k x c.loop-item-test.true c.item-item.is put.width i.widths;
      long = long_more _ w k _ _ i.long (each_long g.T.Item.bytes w xs k x c.loop-item-test.true c.item-item.is put.width);
      left =
          rw c.WIDTH-end.ensures
          (each_more g.T.Item.bytes w xs k x c.loop-item-test.true c.item-item.is put.width c.loop-item.out c.put_at.new.out c.loop-item.end put.bytes ∙ i.left);
    }
