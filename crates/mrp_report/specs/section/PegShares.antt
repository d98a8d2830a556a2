-- The cells that many rows of the section `pegs` share, as they stand ready.
use Rattle.std.specs.Prelude.{ℕ, ◌≡◌, List, ◌++◌, Option, None, Some, codes, decimal}
use Rattle.std.specs.List.{slice_index_or}
use Rattle.mrp_tables.specs.Tables.{Tables}
use Rattle.mrp_report.specs.declared.section.peg_shares.Shared.{Shared}
use Rattle.mrp_report.specs.declared.section.peg_shares.Shared.TheVariants as shared
use Rattle.mrp_report.specs.page.CsvCells.{next_cell}
use Rattle.mrp_report.specs.section.Cells.{parent_name}
use Rattle.mrp_report.specs.section.OrderText.{kind_word}

-- the cells with a number: of a week in which a parent's order requires pieces; of a bill line, the parent and the line; of an
-- order that supplies pieces, its word and number
abbrev pub shared_cells : Tables → Shared → ℕ → List ℕ
shared_cells t shared.Week number = next_cell (decimal number) ++ next_cell (codes "parent")
shared_cells t shared.Line number = next_cell (parent_name t number) ++ next_cell (decimal number)
shared_cells t (shared.Order kind) number = next_cell (kind_word kind) ++ next_cell (decimal number)

-- what stands ready are the cells with their numbers
abbrev pub AreReady : Tables → Shared → List (Option (List ℕ)) → Type 0
AreReady t shared ready = (number : ℕ) (cells : List ℕ) → slice_index_or ready number None ≡ Some cells → cells ≡ shared_cells t shared number
