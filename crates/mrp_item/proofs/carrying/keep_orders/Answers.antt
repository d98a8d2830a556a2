use Rattle.std.proofs.Common.{sym}
use Rattle.std.proofs.lemmas.Bool.{MatchBool-at_false}
use Rattle.mrp_item.proofs.carrying.keep_orders.Goals as goal

pub returns-then-not-keeps_orders-clause-lost : goal.returns-then-not-keeps_orders-clause-lost
returns-then-not-keeps_orders-clause-lost c =
    (c.loop-parent.parent-index, c.parent-item.result, c.loop-parent-test.true, sym c.parent-item.is, MatchBool-at_false _ _ c.if-not-keeps_orders.true c.keeps_orders.ensures)
