-- The operations of orders, and the weeks of work centres that they load.
use Rattle.std.specs.Prelude.{ℕ, ◌+◌, ◌*◌, ◌-◌, ◌^◌, ◌==◌, ◌&&◌, Bool, min, List, Option, Some, None, filter, flat_map, map, sum_by, if◌then◌else◌}
use Rattle.std.specs.List.{list_any}
use Rattle.mrp_bill.specs.declared.groups.Numbered.{Numbered}
use Rattle.mrp_tables.specs.declared.rows.Operation.{Operation}
use Rattle.mrp_work.specs.declared.order.Work.{Work}
use Rattle.mrp_work.specs.declared.order.WorkOrder.{WorkOrder}

-- the week in which an order's operation loads its centre: so many weeks after the order's release, and no later than
-- the order is due (profile)
abbrev pub operation_week : Operation → WorkOrder → ℕ
operation_week operation order = min order.due (order.release + operation.offset)

-- the standard time of an order's operation, in thousandths of a minute: its setup, and its run time for each piece
-- that starts (APICS Dictionary: standard time, setup time, run time)
abbrev pub standard_time : Operation → WorkOrder → ℕ
standard_time operation order = 1000 * operation.setup + operation.run * order.start

-- the work of an order's operation
abbrev pub work_of : WorkOrder → Operation → Work
work_of order operation = record {
  order = order.number;
  operation = operation.operation;
  centre = operation.centre;
  week = operation_week operation order;
  time = standard_time operation order;
}

-- the operations of an item, in table order, and one numbered by its item
abbrev pub operations_of : List Operation → ℕ → List Operation
operations_of routings item = filter (λ operation. operation.item == item) routings

abbrev pub of_operation : Operation → Numbered Operation
of_operation operation = record { number = operation.item; value = operation }

-- the work of an order, and of all orders
abbrev pub work_of_order : List Operation → WorkOrder → List Work
work_of_order routings order = map (work_of order) (operations_of routings order.item)

abbrev pub all_work : List Operation → List WorkOrder → List Work
all_work routings orders = flat_map (work_of_order routings) orders

-- an operation loads this work centre in this week
abbrev pub is_at : ℕ → ℕ → Work → Bool
is_at centre week work = (work.centre == centre) && (work.week == week)

-- this week of this work centre is asked for
abbrev pub is_asked : List (ℕ × ℕ) → ℕ → ℕ → Bool
is_asked asked centre week = list_any (λ place. (place.0 == centre) && (place.1 == week)) asked

-- the operations that load a week of a work centre, if it is asked for
abbrev pub found_of : List (ℕ × ℕ) → List Work → ℕ → ℕ → Option (List Work)
found_of asked works centre week = if is_asked asked centre week then Some (filter (is_at centre week) works) else None

-- the time of operations, in thousandths of a minute
abbrev pub time_of : List Work → ℕ
time_of works = sum_by (λ work. work.time) works

-- the same, which saturates at the greatest number
abbrev pub total : List Work → ℕ
total works = min (time_of works) (2 ^ 128 - 1)
