-- What keeps loads within the range of their numbers.
use Rattle.std.specs.Prelude.{ℕ, ◌≤◌, ◌<◌, ◌^◌, List, All, length, sum_by}
use Rattle.std.specs.Int.{IsInRange}
use Rattle.mrp_qty.specs.Quantity.{greatest_quantity}
use Rattle.mrp_tables.specs.Facts.{IsOperation}
use Rattle.mrp_tables.specs.declared.limits.TheConstants as limits
use Rattle.mrp_tables.specs.declared.rows.Operation.{Operation}
use Rattle.mrp_item.specs.declared.order.Order.{Order}
use Rattle.mrp_item.specs.Inputs.{Inputs}

-- orders of a plan: due and released within the horizon, starting no more than the greatest quantity, and no more
-- orders than fit into memory
pub record AreOrders (weeks : ℕ) (orders : List Order) : Type 0 where
  pub due : All (λ order. IsInRange 1 weeks order.due) orders
  pub released : All (λ order. 1 ≤ order.release) orders
  pub starts : sum_by (λ order. order.start) orders ≤ greatest_quantity
  pub few : length orders < 2 ^ 64

-- operations of accepted tables, no more than a table has
pub record AreOperations (s : Inputs) (operations : List Operation) : Type 0 where
  pub each : All (IsOperation s.tables.items s.tables.centres) operations
  pub few : length operations ≤ limits.MOST_OPERATIONS
