use Rattle.std.proofs.Common.{arith}
use Rattle.mrp_report.proofs.lemmas.page.Tables.{group_at}
use Rattle.mrp_report.proofs.page.number.group_block.Goals as goal

pub returns-clause-text : goal.returns-clause-text
returns-clause-text c = group_at c.args.n _ c.requires (omega arith)
