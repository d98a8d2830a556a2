use Rattle.std.proofs.Common.{◌≡◌, ◌++◌, map, take}
use Rattle.std.specs.List.{enumerate_from}
use Rattle.mrp_item.specs.Supplies.{order_supply}
use Rattle.mrp_item.proofs.supplies.add_orders.Given as goal

abbrev pub invariant-loop-place : goal.invariant-loop-place
invariant-loop-place l = l.supplies.items ≡ l.initial.supplies.items ++ map (λ o. order_supply o.0 o.1) (take l.place (enumerate_from 1 l.orders))
