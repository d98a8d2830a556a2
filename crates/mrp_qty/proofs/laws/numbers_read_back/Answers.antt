use Rattle.mrp_qty.proofs.Numerals.{decimal-read, leading_zero-read}
use Rattle.mrp_qty.proofs.laws.numbers_read_back.Goals as goal

pub returns-clause-back : goal.returns-clause-back
returns-clause-back c = decimal-read

pub returns-clause-leading_zero : goal.returns-clause-leading_zero
returns-clause-leading_zero c = leading_zero-read
