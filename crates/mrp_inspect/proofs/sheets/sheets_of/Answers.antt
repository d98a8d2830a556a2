use Rattle.std.proofs.Common.{◌∙◌, ap, Option}
use Rattle.mrp_rows.specs.declared.fault.Table.{Table}
use Rattle.mrp_rows.specs.declared.fault.Table.TheVariants.{Calendar}
use Rattle.mrp_survey.specs.declared.source.Source.{Source}
use Rattle.mrp_words.specs.Folder.{all_tables}
use Rattle.std.proofs.Common.{get_or}
use Rattle.mrp_inspect.specs.Sheets.{lines_at, lines_in, sheet_lines}
use Rattle.mrp_inspect.proofs.Growing.{maps-more}
use Rattle.mrp_inspect.proofs.sheets.sheets_of.Goals as goal

pub loop-table-preserved : goal.loop-table-preserved
loop-table-preserved c =
    let table : Table = get_or all_tables c.loop-table.table-index Calendar in
    maps-more sheet_lines (lines_at c.args.sources.now) all_tables c.loop-table.table-index Calendar c.loop-table.sheets.items _ c.in_ok-sheet.sheet c.loop-table-test.true c.in_ok-push.ensures.items
    (c.in_ok-sheet.ensures ∙ ap (λ (s : Option Source). lines_in table s) c.source_at-source.ensures) c.loop-table.invariant
