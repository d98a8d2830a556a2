use Rattle.std.proofs.Common.{◌∙◌}
use Rattle.mrp_report.proofs.lemmas.page.Tables.{length_at}
use Rattle.mrp_report.proofs.page.number.cell_len.Goals as goal

pub returns : goal.returns
returns c = c.from.ensures ∙ length_at c.args.n c.requires
