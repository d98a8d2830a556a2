-- What holds of a plan of an item.
use Rattle.std.specs.Prelude.{ℕ, ◌≡◌, ◌<◌}
use Rattle.mrp_phase.specs.Weeks.{row}
use Rattle.mrp_item.specs.Inputs.{Inputs, count, horizon}
use Rattle.mrp_item.specs.Orders.{started_in}
use Rattle.mrp_item.specs.Places.{PlannedItem}
use Rattle.mrp_item.specs.Plan as plan
use Rattle.mrp_item.specs.Plan.{ItemPlan, outcome_of}
use Rattle.mrp_item.specs.declared.planned.PlanRows.{PlanRows}
use Rattle.mrp_item.specs.declared.planned.Planned.TheInside.{Inside}

-- the plan in rows
abbrev pub plan_in_rows : PlanRows → ItemPlan
plan_in_rows rows = record { gross = rows.gross; receipts = rows.receipts; orders = rows.orders.items }

abbrev pub planned_view : Inside → PlannedItem
planned_view p = record { inputs = p.inputs.value; item = p.item; plan = plan_in_rows p.rows.value }

-- rows are an item's: its plan, and the starts in each week
pub record AreRowsOf (s : Inputs) (i : ℕ) (rows : PlanRows) : Type 0 where
  pub outcome : outcome_of s i ≡ plan.Planned (plan_in_rows rows)
  pub started : rows.started ≡ row (horizon s) (started_in rows.orders.items)

pub record IsPlanned (p : Inside) : Type 0 where
  pub within : p.item < count p.inputs.value
  pub rows : AreRowsOf p.inputs.value p.item p.rows.value
