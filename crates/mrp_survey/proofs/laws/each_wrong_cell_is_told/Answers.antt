use Rattle.mrp_survey.proofs.CellLaws.{tells-each-cell}
use Rattle.mrp_survey.proofs.laws.each_wrong_cell_is_told.Goals as goal

pub returns : goal.returns
returns c = tells-each-cell
