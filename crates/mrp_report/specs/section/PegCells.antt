-- The cells of a requirement, as a row is put together.
use Rattle.std.specs.Prelude.{ℕ, List, [], ◌∷◌, ◌++◌, decimal}
use Rattle.mrp_report.specs.declared.section.pegs.Needed.{Needed}
use Rattle.mrp_report.specs.declared.section.pegs.ParentLine.{ParentLine}
use Rattle.mrp_report.specs.page.CellOf.{cell_of}
use Rattle.mrp_report.specs.page.CsvCells.{cell_text, next_cell}
use Rattle.mrp_report.specs.page.WordText.{word_text}

abbrev pub needed_cells : Needed → List (List ℕ)
needed_cells n = cell_of n.week ∷ word_text n.need ∷ cell_of n.number ∷ cell_of n.parent ∷ cell_of n.line ∷ []

-- a row whose cells of a week, of a bill line and of a supply stand ready
abbrev pub parent_text : ParentLine → List ℕ
parent_text l = cell_text l.name.now ++ l.week.now ++ next_cell (decimal l.order) ++ l.line.now ++ l.source.now ++ next_cell (decimal l.quantity) ++ 10 ∷ []
