-- Each item is in the stock table at most once, so its row has all its stock on hand.
use Rattle.std.proofs.Common.{length}
use Rattle.std.proofs.lemmas.List.{length-set}
use Rattle.mrp_master.proofs.OnHand.{on_hand_set, on_hand_of_each}
use Rattle.mrp_master.proofs.supply.on_hand.Goals as goal

pub loop-row-preserved : goal.loop-row-preserved
loop-row-preserved c = record {
  size = simp length-set c.loop-row.invariant.size;
  rows = λ i h.
      on_hand_set c.args.rows.now c.requires.once c.args.items.now c.loop-row.on_hand.items c.loop-row.row-index i c.row-item.result c.requires.within
      c.loop-row.invariant.size c.loop-row-test.true c.row-item.is (c.loop-row.invariant.rows i h);
}

pub returns : goal.returns
returns c = on_hand_of_each c.args.rows.now _ (length c.args.items.now) c.loop-row.row-index c.loop-row.invariant.size c.loop-row-test.false c.loop-row.invariant.rows
