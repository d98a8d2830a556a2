-- The operations that load overloads, by the tables of the day and the orders that are kept.
use Rattle.std.specs.Prelude.{ℕ, List, Option, None, Some, flat_map, length, option_map}
use Rattle.std.specs.List.{position, range_with_len}
use Rattle.std.specs.Option.{option_to_list}
use Rattle.mrp_cal.specs.DateText.{◌>>=◌}
use Rattle.mrp_qty.specs.Quantity.{quantity_of}
use Rattle.mrp_tables.specs.Tables.{Tables}
use Rattle.mrp_facts.specs.Facts.{Facts, place_named}
use Rattle.mrp_work.specs.declared.order.Work.{Work}
use Rattle.mrp_work.specs.declared.order.WorkOrder.{WorkOrder}
use Rattle.mrp_work.specs.Work.{all_work, found_of}
use Rattle.mrp_page.specs.Amounts.{amount}
use Rattle.mrp_page.specs.Numbering.{row_at}
use Rattle.mrp_page.specs.Row.{RowView, cell_at, same_text}

-- what overloads are explained by: the tables of the day, the orders that are kept, and the overloads that are asked for
pub record WorkView : Type 0 where
  pub facts : Facts
  pub orders : List RowView
  pub asked : List RowView

-- the place of the work centre with a name, from 0
abbrev pub centre_named : Tables → List ℕ → Option ℕ
centre_named t name = position (λ centre. same_text centre.name name) t.centres

-- an order of the day, by its place among those that are kept, as it loads work centres
abbrev pub order_of_row : Tables → ℕ → RowView → Option WorkOrder
order_of_row t place order =
    place_named t (cell_at order 0) >>= λ item. option_map (λ start. record { number = place; item = item; due = amount (cell_at order 3); release = amount (cell_at order 6); start = start }) (quantity_of (amount (cell_at order 5)))

-- the orders of a day, as they load work centres
abbrev pub work_orders : Tables → List RowView → List WorkOrder
work_orders t orders = flat_map (λ place. option_to_list (order_of_row t place (row_at orders place))) (range_with_len 0 (length orders))

-- the work centre, by its place, and the week of a row of the loads
abbrev pub place_of_load : Tables → RowView → Option (ℕ × ℕ)
place_of_load t load = option_map (λ centre. (centre, amount (cell_at load 1))) (centre_named t (cell_at load 0))

abbrev pub places_of_loads : Tables → List RowView → List (ℕ × ℕ)
places_of_loads t loads = flat_map (λ load. option_to_list (place_of_load t load)) loads

-- the operations that load a week of a work centre, if it is asked for
abbrev pub works_at : WorkView → ℕ → ℕ → Option (List Work)
works_at view centre week = found_of (places_of_loads view.facts.tables view.asked) (all_work view.facts.tables.routings (work_orders view.facts.tables view.orders)) centre week

abbrev pub works_of : WorkView → RowView → Option (List Work)
works_of view load = place_of_load view.facts.tables load >>= λ place. works_at view place.0 place.1

-- overloads are explained if the tables are given
abbrev pub work_view : Option Facts → List RowView → List RowView → Option WorkView
work_view None orders asked = None
work_view (Some facts) orders asked = Some (record { facts = facts; orders = orders; asked = asked })
