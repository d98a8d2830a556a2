-- Dependent demand: what the lines to a part require in each week.
use Rattle.std.specs.Prelude.{ℕ, ◌+◌, ◌*◌, List, sum_by}
use Rattle.mrp_tables.specs.declared.rows.BillLine.{BillLine}
use Rattle.mrp_phase.specs.Weeks.{in_week, row}
use Rattle.mrp_item.specs.Inputs.{Inputs, horizon}
use Rattle.mrp_item.specs.Orders.{started_in}
use Rattle.mrp_item.specs.Plan.{outcome_of, plan_in}

-- a bill line, as it is exploded: the starts of its parent in each week, and the quantity per
pub record LineStarts : Type 0 where
  pub started : List ℕ
  pub per : ℕ

abbrev pub line_starts : Inputs → BillLine → LineStarts
line_starts s line = record { started = row (horizon s) (started_in (plan_in (outcome_of s line.parent)).orders); per = line.per }

-- what a line requires in a week: the starts there, times the quantity per
abbrev pub required_in : ℕ → LineStarts → ℕ
required_in week line = in_week line.started week * line.per

-- a row's value in a week, with what lines require there added
abbrev pub with_lines : List ℕ → List LineStarts → ℕ → ℕ
with_lines demand lines week = in_week demand week + sum_by (required_in week) lines
