use Rattle.std.proofs.Common.{◌≡◌, ◌++◌, map, take}
use Rattle.csv.specs.Writing.{default_writer, row_body}
use Rattle.mrp_report.proofs.page.Page.row.Given as goal

abbrev pub invariant-loop-place : goal.invariant-loop-place
invariant-loop-place l = l.self ≡ l.fn.self ++ row_body default_writer (take l.place (map (λ cell. cell.now) l.cells))
