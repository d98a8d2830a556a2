use Rattle.std.specs.List.{AllWithin}
use Rattle.mrp_item.specs.NetChange.{KeepsOrders}
use Rattle.mrp_item.proofs.carrying.keep_orders.Given as goal

abbrev pub invariant-loop-parent : goal.invariant-loop-parent
invariant-loop-parent l = AllWithin (λ o. KeepsOrders l.old.inputs o.inputs o.item) l.parents 0 l.parent-index
