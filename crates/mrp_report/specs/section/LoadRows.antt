-- The row of each work centre and week in the section `loads`.
use Rattle.std.specs.Prelude.{ℕ, List}
use Rattle.mrp_phase.specs.Weeks.{row}
use Rattle.mrp_item.specs.Inputs.{Inputs, horizon}
use Rattle.mrp_load.specs.Loads.{capacity, load, over}
use Rattle.mrp_report.specs.declared.section.loads.LoadRow.{LoadRow}

-- a work centre's week: its load, its capacity, and by how much the load exceeds it
abbrev pub load_row : Inputs → ℕ → ℕ → LoadRow
load_row s centre week = record {
  week = week;
  load = load s centre week;
  capacity = capacity s centre week;
  over = over s centre week;
}

-- the rows of a work centre, week by week
abbrev pub load_rows : Inputs → ℕ → List LoadRow
load_rows s centre = row (horizon s) (load_row s centre)
