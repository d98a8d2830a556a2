use Rattle.std.proofs.Common.{◌≡◌, ◌++◌}
use Rattle.std.specs.List.{flat_map}
use Rattle.mrp_phase.specs.Weeks.{row}
use Rattle.mrp_report.specs.section.LoadRows.{load_row}
use Rattle.mrp_report.specs.section.LoadText.{load_text}
use Rattle.mrp_report.proofs.section.centre.week_rows.Given as goal

abbrev pub invariant-loop-place : goal.invariant-loop-place
invariant-loop-place l = l.page ≡ l.fn.page ++ flat_map (load_text l.name) (row l.place (load_row l.loads l.centre))
