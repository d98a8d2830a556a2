use Rattle.std.proofs.Common.{arith}
use Rattle.mrp_book.proofs.AllRows.{master_inside, rows_more, rows_none}
use Rattle.mrp_book.proofs.rows.rows_of.Goals as goal

pub loop-item-init : goal.loop-item-init
loop-item-init c = rows_none _ _ c.in_ok-rows.ensures.items

pub loop-item-preserved : goal.loop-item-preserved
loop-item-preserved c = let e = c.in_ok-push.ensures.items in let h = c.in_ok-row_of.ensures in rows_more _ _ _ _ _ c.loop-item.invariant e h

pub returns : goal.returns
returns c = λ item is. c.loop-item.invariant.made item (omega (arith, master_inside c.args.supply.now item is, c.requires)) is
