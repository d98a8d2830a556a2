-- The row of each item and week in the section `plan`.
use Rattle.std.specs.Prelude.{ℕ, ◌-◌, if◌then◌else◌, List}
use Rattle.mrp_phase.specs.Weeks.{row, in_week}
use Rattle.mrp_item.specs.Inputs.{Inputs, horizon, is_master}
use Rattle.mrp_item.specs.Rows.{scheduled_in}
use Rattle.mrp_item.specs.Orders.{started_in}
use Rattle.mrp_item.specs.Plan.{ItemPlan, balance_in}
use Rattle.mrp_report.specs.declared.section.plan.PlanRow.{PlanRow}

-- an item's week: gross requirements, receipts, what starts, and the projected available balance at its end. What is
-- scheduled for a master item are its firm rows, and for a part its open receipts (profile)
abbrev pub plan_row : Inputs → ℕ → ItemPlan → ℕ → PlanRow
plan_row s i plan week = record {
  week = week;
  gross = in_week plan.gross week;
  receipts = if is_master s i then 0 else scheduled_in s i week;
  firm = if is_master s i then scheduled_in s i week else 0;
  planned = in_week plan.receipts week - in_week plan.receipts (week - 1);
  start = started_in plan.orders week;
  balance = balance_in s i plan week;
}

-- the rows of an item, week by week
abbrev pub plan_rows : Inputs → ℕ → ItemPlan → List PlanRow
plan_rows s i plan = row (horizon s) (plan_row s i plan)
