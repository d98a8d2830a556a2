use Rattle.mrp_page.proofs.ShownCells.{drawn-is, shown-cells}
use Rattle.mrp_page.proofs.laws.rows_show_their_cells.Goals as goal

pub returns-clause-drawn : goal.returns-clause-drawn
returns-clause-drawn c = drawn-is

pub returns-clause-cells : goal.returns-clause-cells
returns-clause-cells c = shown-cells
