-- What pictures are drawn from.
use Rattle.std.specs.Prelude.{ℕ, List, ◌++◌, codes}
use Rattle.mrp_page.specs.Columns.{column}
use Rattle.mrp_page.specs.Escaped.{escaped}
use Rattle.mrp_page.specs.Row.{RowView, cell_at}
use Rattle.mrp_day.specs.declared.section.Section.{Section}
use Rattle.mrp_day.specs.declared.section.Section.TheVariants as s

-- a row's text in a column of its section
abbrev text_in : Section → List ℕ → RowView → List ℕ
text_in section name row = escaped (cell_at row (column section name))

-- a point of the line of balances: a week, and its balance
abbrev pub drawn_balance : RowView → List ℕ
drawn_balance row = text_in s.Plan (codes "week") row ++ (codes "," ++ (text_in s.Plan (codes "balance") row ++ codes " "))
