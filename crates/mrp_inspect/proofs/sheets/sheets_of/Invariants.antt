use Rattle.std.proofs.Common.{◌≡◌, map, take}
use Rattle.mrp_words.specs.Folder.{all_tables}
use Rattle.mrp_inspect.specs.Sheets.{lines_at, sheet_lines}
use Rattle.mrp_inspect.proofs.sheets.sheets_of.Given as goal

abbrev pub invariant-loop-table : goal.invariant-loop-table
invariant-loop-table l = map sheet_lines l.sheets.items ≡ map (lines_at l.sources) (take l.table-index all_tables)
