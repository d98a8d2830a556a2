use Rattle.std.proofs.Common.{◌≡◌, take}
use Rattle.mrp_report.proofs.lemmas.section.PromiseBookings.{row_with}
use Rattle.mrp_report.proofs.section.promise_item.promises_of.Given as goal

abbrev pub invariant-loop-due : goal.invariant-loop-due
invariant-loop-due l = l.row ≡ row_with l.supply l.item (take l.due-index l.due-items)
