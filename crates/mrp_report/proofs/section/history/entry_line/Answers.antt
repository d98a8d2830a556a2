use Rattle.mrp_report.proofs.lemmas.section.EntryRows.{row-is}
use Rattle.mrp_report.proofs.section.history.entry_line.Goals as goal

pub returns : goal.returns
returns c = row-is c.args.names.now.tables.now c.args.number c.args.entry.now c.of.result c.of-2.result c.of.ensures c.of-2.ensures
