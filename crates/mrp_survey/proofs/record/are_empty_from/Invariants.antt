use Rattle.std.proofs.Common.{◌≡◌, drop}
use Rattle.mrp_rows.specs.Shown.{are_empty}
use Rattle.mrp_survey.proofs.record.are_empty_from.Given as goal

abbrev pub invariant-loop-column : goal.invariant-loop-column
invariant-loop-column l = are_empty (drop l.place l.row.first) ≡ are_empty (drop l.column l.row.first)
