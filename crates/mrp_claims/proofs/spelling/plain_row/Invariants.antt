use Rattle.std.proofs.Common.{◌≡◌, ◌≤◌, take}
use Rattle.csv.specs.Records.{fields_of}
use Rattle.mrp_report.proofs.lemmas.page.RowCells.{body}
use Rattle.mrp_claims.proofs.spelling.plain_row.Given as goal

abbrev pub invariant-loop-column : goal.invariant-loop-column
invariant-loop-column l = (1 ≤ l.column) × (l.text.items ≡ body (take l.column (fields_of l.cells)))
