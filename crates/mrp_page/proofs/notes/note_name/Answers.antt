use Rattle.std.proofs.Common.{◌∙◌, sym}
use Rattle.mrp_page.proofs.NamesOnce.{text-same}
use Rattle.mrp_page.proofs.notes.note_name.Goals as goal

pub returns-then-same : goal.returns-then-same
returns-then-same c = text-same c.args.last.now.items c.args.name.now (sym c.requires ∙ c.if-same.true)
