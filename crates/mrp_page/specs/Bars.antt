-- What the rows of loads say, in each plan.
use Rattle.std.specs.Prelude.{ℕ, ◌≡◌, ◌≤◌, ◌-◌, codes}
use Rattle.mrp_qty.specs.Minutes.{minutes_text_of}
use Rattle.mrp_page.specs.Columns.{column}
use Rattle.mrp_page.specs.Row.{RowView, cell_at}
use Rattle.mrp_page.specs.declared.limits.TheConstants.{MOST_AMOUNT}
use Rattle.mrp_day.specs.declared.section.Section.TheVariants as s

-- a row says how long the load of a week and its capacity are, and what is over: the load less the capacity
pub record HasTimes (row : RowView) (load capacity : ℕ) : Type 0 where
  pub loaded : cell_at row (column s.Loads (codes "load")) ≡ minutes_text_of load
  pub able : cell_at row (column s.Loads (codes "capacity")) ≡ minutes_text_of capacity
  pub over : cell_at row (column s.Loads (codes "over")) ≡ minutes_text_of (load - capacity)
  pub load_small : load ≤ MOST_AMOUNT
  pub capacity_small : capacity ≤ MOST_AMOUNT
