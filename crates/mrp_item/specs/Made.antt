-- Outcomes, seen as their items and the inputs that these are planned from.
use Rattle.std.specs.Prelude.{ℕ, List, map, Option, Some, None}
use Rattle.mrp_bill.specs.Bill.{parents_of}
use Rattle.mrp_item.specs.Inputs.{Inputs, count, places}
use Rattle.mrp_item.specs.Places.{ItemOf, PlannedItem}
use Rattle.mrp_item.specs.Plan.{Outcome, Planned, Over, Blocked, outcome_of}

-- the item, planned from these inputs
abbrev pub item_from : Inputs → ℕ → ItemOf
item_from s i = record { inputs = s; item = i }

-- the items, each planned from these inputs
abbrev pub items_from : Inputs → List ℕ → List ItemOf
items_from s items = map (item_from s) items

-- an item's distinct parents, in table order
abbrev pub parents_from : Inputs → ℕ → List ItemOf
parents_from s i = items_from s (parents_of s.tables.bills (count s) i)

-- all items, in table order
abbrev pub all_from : Inputs → List ItemOf
all_from s = items_from s (places s)

-- the plan of an item, if it is planned
abbrev pub planned_as : ItemOf → Outcome → Option PlannedItem
planned_as o (Planned plan) = Some (record { inputs = o.inputs; item = o.item; plan = plan })
planned_as o Over = None
planned_as o Blocked = None

abbrev pub planned_item : ItemOf → Option PlannedItem
planned_item o = planned_as o (outcome_of o.inputs o.item)
