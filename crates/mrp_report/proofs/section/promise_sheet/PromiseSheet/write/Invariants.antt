use Rattle.std.proofs.Common.{◌≡◌, ◌++◌}
use Rattle.std.specs.List.{flat_map}
use Rattle.mrp_phase.specs.Weeks.{row}
use Rattle.mrp_report.specs.section.PromiseText.{promise_text}
use Rattle.mrp_report.specs.section.PromiseSheet.{IsLeftTo, sheet_promise}
use Rattle.mrp_report.proofs.section.promise_sheet.PromiseSheet.write.Given as goal

abbrev pub invariant-loop-place : goal.invariant-loop-place
invariant-loop-place l = record {
  page : l.page ≡ l.fn.page ++ flat_map (promise_text l.name) (row l.place (sheet_promise l.self));
  left : IsLeftTo l.self l.place l.available;
}
