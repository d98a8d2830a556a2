-- The loads that the orders of a plan put on work centres, week by week, and the centres'
-- capacities.
use Rattle.std.specs.Prelude.{ℕ, ◌+◌, ◌-◌, ◌*◌, ◌==◌, nat_lt, if◌then◌else◌, List, [], ◌∷◌, length, filter, flat_map, sum_by, min}
use Rattle.std.specs.List.{range_with_len, slice_index_or}
use Rattle.mrp_cal.specs.ShopDays.{shop_days_in}
use Rattle.mrp_tables.specs.declared.rows.Centre.{Centre}
use Rattle.mrp_tables.specs.declared.rows.Operation.{Operation}
use Rattle.mrp_phase.specs.Weeks.{row, weeks}
use Rattle.mrp_item.specs.declared.order.Order.{Order}
use Rattle.mrp_item.specs.Inputs.{Inputs, horizon}
use Rattle.mrp_item.specs.Plan.{outcome_of, plan_in}

-- the week in which an order's operation loads its centre: so many weeks after the order's release, and no later than
-- the order is due (profile)
abbrev pub operation_week : Operation → Order → ℕ
operation_week operation order = min order.due (order.release + operation.offset)

-- the standard time of an order's operation, in thousandths of a minute: its setup, and its run time for each piece
-- that starts (APICS Dictionary: standard time, setup time, run time)
abbrev pub standard_time : Operation → Order → ℕ
standard_time operation order = 1000 * operation.setup + operation.run * order.start

-- the time that an operation takes in a week: for those orders whose operation is in that week
abbrev pub operation_load : List Order → Operation → ℕ → ℕ
operation_load orders operation week = sum_by (standard_time operation) (filter (λ order. operation_week operation order == week) orders)

-- the orders of an item, firm and planned
abbrev pub orders_in : Inputs → ℕ → List Order
orders_in s i = (plan_in (outcome_of s i)).orders

-- the time that some operations take in a week, for the orders of their items
abbrev pub load_by : Inputs → List Operation → ℕ → ℕ
load_by s operations week = sum_by (λ operation. operation_load (orders_in s operation.item) operation week) operations

-- the same in each week of the horizon
unfoldable pub loads_by : Inputs → List Operation → List ℕ
loads_by s operations = row (horizon s) (load_by s operations)

-- the work centres, by their places in the table
abbrev pub centres : Inputs → List ℕ
centres s = range_with_len 0 (length s.tables.centres)

-- the operations at a work centre, in table order
abbrev pub operations_at : Inputs → ℕ → List Operation
operations_at s centre = filter (λ operation. operation.centre == centre) s.tables.routings

-- the load of a work centre in a week, in thousandths of a minute (APICS Dictionary: load)
abbrev pub load : Inputs → ℕ → ℕ → ℕ
load s centre week = load_by s (operations_at s centre) week

abbrev pub centre_at : Inputs → ℕ → Centre
centre_at s centre = slice_index_or s.tables.centres centre (record { name = []; minutes = 0 })

-- the capacity of a work centre in a week, in thousandths of a minute: its minutes of each shop day (APICS
-- Dictionary: capacity available)
abbrev pub capacity : Inputs → ℕ → ℕ → ℕ
capacity s centre week = 1000 * ((centre_at s centre).minutes * shop_days_in s.tables.calendar week)

-- by how much the load of a work centre in a week exceeds its capacity (APICS Dictionary: overload)
abbrev pub over : Inputs → ℕ → ℕ → ℕ
over s centre week = load s centre week - capacity s centre week

-- a work centre's week with its overload, if it has one
abbrev pub overload : Inputs → ℕ → ℕ → List (ℕ × ℕ × ℕ)
overload s centre week = if nat_lt 0 (over s centre week) then (centre, week, over s centre week) ∷ [] else []

-- the overloads of a work centre, by week
abbrev pub overloads_at : Inputs → ℕ → List (ℕ × ℕ × ℕ)
overloads_at s centre = flat_map (overload s centre) (weeks (horizon s))

-- all overloads: the work centres in table order, and the weeks of each in order
abbrev pub overloads : Inputs → List (ℕ × ℕ × ℕ)
overloads s = flat_map (overloads_at s) (centres s)
