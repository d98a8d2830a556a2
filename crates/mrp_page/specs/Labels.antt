-- The label of the supplies in a time-phased record.
use Rattle.std.specs.Prelude.{ℕ, ◌≡◌, ◌<◌, ◌^◌, List, All, codes, decimal, map}
use Rattle.mrp_page.specs.Columns.{column}
use Rattle.mrp_page.specs.Row.{RowView, cell_at}
use Rattle.mrp_day.specs.declared.section.Section.TheVariants as s

-- the rows of a plan say that these pieces are firm, row by row
pub record AreFirm (plan : List RowView) (firm : List ℕ) : Type 0 where
  pub numbers : map (λ row. cell_at row (column s.Plan (codes "firm"))) plan ≡ map decimal firm
  pub small : All (λ pieces. pieces < 2 ^ 64) firm
