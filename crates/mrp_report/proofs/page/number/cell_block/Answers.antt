use Rattle.std.proofs.Common.{arith}
use Rattle.mrp_report.proofs.lemmas.page.Tables.{cell_at}
use Rattle.mrp_report.proofs.page.number.cell_block.Goals as goal

pub returns-clause-text : goal.returns-clause-text
returns-clause-text c = cell_at c.args.n _ c.requires (omega arith)
