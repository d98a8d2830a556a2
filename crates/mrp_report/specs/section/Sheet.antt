-- The quantities of an item week by week, from which its rows are made.
use Rattle.std.specs.Prelude.{ℕ, ◌≡◌, ◌≤◌, ◌+◌, ◌-◌, ◌*◌, if◌then◌else◌, length}
use Rattle.mrp_cal.specs.declared.calendar.TheConstants.{MOST_WEEKS}
use Rattle.mrp_qty.specs.Quantity.{greatest_quantity}
use Rattle.mrp_phase.specs.Weeks.{in_week, sum_to}
use Rattle.mrp_report.specs.declared.section.plan.PlanRow.{PlanRow}
use Rattle.mrp_report.specs.declared.section.sheet.Sheet.{Sheet}
use Rattle.mrp_report.specs.declared.section.sheet.Sums.{Sums}

-- a sheet of at most two years, with a quantity of each kind for each week
pub record IsSheet (s : Sheet) : Type 0 where
  pub few : s.weeks ≤ MOST_WEEKS
  pub gross : length s.gross.now ≡ s.weeks
  pub scheduled : length s.scheduled.now ≡ s.weeks
  pub received : length s.received.now ≡ s.weeks
  pub started : length s.started.now ≡ s.weeks

-- the row of a week
abbrev pub sheet_row : Sheet → ℕ → PlanRow
sheet_row s week = record {
  week = week;
  gross = in_week s.gross.now week;
  receipts = if s.is_master then 0 else in_week s.scheduled.now week;
  firm = if s.is_master then in_week s.scheduled.now week else 0;
  planned = in_week s.received.now week - in_week s.received.now (week - 1);
  start = in_week s.started.now week;
  balance = (s.on_hand + sum_to s.scheduled.now week + in_week s.received.now week) - sum_to s.gross.now week;
}

-- the sums up to a week
pub record AreSums (s : Sheet) (week : ℕ) (sums : Sums) : Type 0 where
  pub supplied : sums.supplied ≡ s.on_hand + sum_to s.scheduled.now week
  pub required : sums.required ≡ sum_to s.gross.now week
  pub received : sums.received ≡ in_week s.received.now week
  pub little : sums.supplied ≤ (week + 1) * greatest_quantity
  pub few : sums.required ≤ week * greatest_quantity
  pub small : sums.received ≤ greatest_quantity
