use Rattle.std.proofs.Common.{◌≡◌, ◌++◌}
use Rattle.std.specs.List.{flat_map}
use Rattle.mrp_phase.specs.Weeks.{row}
use Rattle.mrp_report.specs.section.PlanText.{week_text}
use Rattle.mrp_report.specs.section.Sheet.{AreSums, sheet_row}
use Rattle.mrp_report.proofs.section.sheet.Sheet.write.Given as goal

abbrev pub invariant-loop-place : goal.invariant-loop-place
invariant-loop-place l = AreSums l.self l.place l.sums × (l.page ≡ l.fn.page ++ flat_map (week_text l.name) (row l.place (sheet_row l.self)))
