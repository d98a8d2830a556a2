use Rattle.std.proofs.Common.{◌≡◌, ◌++◌, map, take}
use Rattle.mrp_item.specs.declared.order.OrderKind.TheVariants.{Firm}
use Rattle.mrp_item.specs.Dues.{due_in}
use Rattle.mrp_item.specs.Orders.{order_of}
use Rattle.mrp_item.proofs.orders.OrderList.add_firm.Given as goal

abbrev pub invariant-loop-due : goal.invariant-loop-due
invariant-loop-due l = l.self ≡ l.initial.self ++ map (order_of l.terms.tables.now l.terms.item.now Firm l.week) (due_in l.week (take l.due-index l.dues))
