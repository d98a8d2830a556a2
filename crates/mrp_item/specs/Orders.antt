-- An item's orders.
use Rattle.std.specs.Prelude.{ℕ, Bool, true, false, ◌-◌, ◌==◌, nat_lt, if◌then◌else◌, List, [], ◌∷◌, ◌++◌, map, flat_map, filter, sum_by}
use Rattle.mrp_qty.specs.Quantity.{start_of}
use Rattle.mrp_tables.specs.declared.item.Item.{Item}
use Rattle.mrp_tables.specs.Tables.{Tables}
use Rattle.mrp_phase.specs.Weeks.{weeks, in_week}
use Rattle.mrp_item.specs.declared.order.OrderKind.{OrderKind}
use Rattle.mrp_item.specs.declared.order.OrderKind.TheVariants.{Firm, Planned}
use Rattle.mrp_item.specs.declared.order.Order.{Order}
use Rattle.mrp_item.specs.Inputs.{Inputs, horizon, item_at}
use Rattle.mrp_item.specs.Releases.{release_of}
use Rattle.mrp_item.specs.Rows.{firm_rows}

-- an order of an item for a quantity that is due in a week
abbrev pub order_of : Tables → Item → OrderKind → ℕ → ℕ → Order
order_of tables item kind due quantity = record {
  kind = kind;
  due = due;
  quantity = quantity;
  start = start_of item.scrap quantity;
  release = (release_of tables due item.lead).week;
  late = (release_of tables due item.lead).late;
}

-- the firm orders of a week: its firm rows in table order
abbrev pub firm_orders : Inputs → ℕ → ℕ → List Order
firm_orders s i week = map (λ r. order_of s.tables (item_at s i) Firm week r.quantity) (firm_rows s i week)

-- the planned order of a week, for the rise of the cumulative receipts in it (Orlicky: planned order releases)
abbrev pub planned_order : Tables → Item → ℕ → ℕ → ℕ → List Order
planned_order tables item week before received =
    if nat_lt before received then order_of tables item Planned week (received - before) ∷ [] else []

-- the orders due in a week: the firm ones, then the planned one
abbrev pub orders_due : Inputs → ℕ → List ℕ → ℕ → List Order
orders_due s i receipts week =
    firm_orders s i week ++ planned_order s.tables (item_at s i) week (in_week receipts (week - 1)) (in_week receipts week)

-- the orders of an item by due week, given its receipts up to each week; an order's number is its place from 1
abbrev pub orders_of : Inputs → ℕ → List ℕ → List Order
orders_of s i receipts = flat_map (orders_due s i receipts) (weeks (horizon s))

abbrev pub is_firm_order : OrderKind → Bool
is_firm_order Firm = true
is_firm_order Planned = false

-- the orders released in a week
abbrev pub released_in : ℕ → List Order → List Order
released_in week orders = filter (λ order. order.release == week) orders

-- the starts in a week
abbrev pub started_in : List Order → ℕ → ℕ
started_in orders week = sum_by (λ order. order.start) (released_in week orders)
