use Rattle.mrp_rows.proofs.DigitCells.{number_cell-decimal, number_cell-digits, number_cell-zeros}
use Rattle.mrp_rows.proofs.record_laws.numbers_in_cells.Goals as goal

pub returns : goal.returns
returns c = record { decimal_text = number_cell-decimal; leading_zeros = number_cell-zeros; digits_alone = number_cell-digits }
