-- The supplies of a planned item, in their order.
use Rattle.std.specs.Prelude.{ℕ, ◌==◌, List, ◌∷◌, ◌++◌, map, filter, flat_map, Some, None}
use Rattle.std.specs.List.{enumerate_from}
use Rattle.mrp_phase.specs.Weeks.{weeks}
use Rattle.mrp_item.specs.declared.due.Due.{Due}
use Rattle.mrp_item.specs.declared.order.Order.{Order}
use Rattle.mrp_item.specs.declared.supplies.Supplied.TheVariants as supplied
use Rattle.mrp_item.specs.declared.supplies.Supply.{Supply}
use Rattle.mrp_item.specs.Dues.{receipt_due}
use Rattle.mrp_item.specs.Inputs.{Inputs, horizon}
use Rattle.mrp_item.specs.Rows.{on_hand, open_receipts}

-- stock on hand
abbrev pub stock_supply : ℕ → Supply
stock_supply quantity = record { source = supplied.Stock; week = 0; quantity = quantity; order = None }

-- an open receipt, by its record's number
abbrev pub due_supply : Due → Supply
due_supply due = record { source = supplied.Receipt due.number; week = due.week; quantity = due.quantity; order = None }

-- an order, by its number
abbrev pub order_supply : ℕ → Order → Supply
order_supply number order = record { source = supplied.Order number; week = order.due; quantity = order.quantity; order = Some order }

-- the supplies due in a week: the open receipts in table order, then the orders by their numbers, firm ones before the
-- planned one
abbrev pub supplies_in : Inputs → ℕ → List Order → ℕ → List Supply
supplies_in s i orders week =
    map (λ r. due_supply (receipt_due r)) (open_receipts s i week)
    ++ map (λ o. order_supply o.0 o.1) (filter (λ o. o.1.due == week) (enumerate_from 1 orders))

-- the supplies due, week by week, of an item with these orders
abbrev pub supplies_to_come : Inputs → ℕ → List Order → List Supply
supplies_to_come s i orders = flat_map (supplies_in s i orders) (weeks (horizon s))

-- the supplies of an item with these orders: stock on hand, and then what is due
abbrev pub supplies_of : Inputs → ℕ → List Order → List Supply
supplies_of s i orders = stock_supply (on_hand s i) ∷ supplies_to_come s i orders
