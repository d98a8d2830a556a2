use Rattle.std.proofs.Common.{sym, subst}
use Rattle.mrp_rows.specs.Bundle.{text_in}
use Rattle.mrp_rows.specs.Columns.{Layout, layout_of, width}
use Rattle.mrp_rows.specs.Records.{records_of}
use Rattle.mrp_tables.proofs.Opening.{after_header-layout}
use Rattle.mrp_tables.proofs.reading.read_table.Goals as goal

pub read_records-requires-clause-takes : goal.read_records-requires-clause-takes
read_records-requires-clause-takes g c =
    let own = after_header-layout (layout_of c.args.table) (records_of (text_in c.args.sections.now c.args.table)) c.in_ok-cursor.cursor c.in_ok-cursor.ensures in
    let P : Layout → Type 0 = λ own. g.G.TableRows.takes (g.G.TableRows.beside c.args.empty) (width own) in
    subst P (sym own) c.requires.takes

pub returns-clause-rows : goal.returns-clause-rows
returns-clause-rows g c = c.read_records.ensures.rows (layout_of c.args.table) (text_in c.args.sections.now c.args.table) c.in_ok-cursor.ensures

pub returns-clause-count : goal.returns-clause-count
returns-clause-count g c = c.read_records.ensures.count (layout_of c.args.table) (text_in c.args.sections.now c.args.table) c.in_ok-cursor.ensures
