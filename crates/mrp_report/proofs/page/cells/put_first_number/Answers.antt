use Rattle.std.proofs.Common.{arith, rules}
use Rattle.std.proofs.lemmas.Fmt.{length-decimal-le}
use Rattle.mrp_report.proofs.lemmas.page.PlainCells.{plain}
use Rattle.mrp_report.proofs.page.cells.put_first_number.Goals as goal

pub returns-clause-put : goal.returns-clause-put
returns-clause-put c = rw (plain c.args.number c.ranges.number.fits) (search rules)

pub returns-clause-near : goal.returns-clause-near
returns-clause-near c = omega (arith, c.put_all.ensures.moved, length-decimal-le 20 c.args.number (omega arith) (omega arith) (omega arith))
