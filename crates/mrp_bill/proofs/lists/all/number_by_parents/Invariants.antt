use Rattle.std.proofs.Common.{length}
use Rattle.mrp_bill.proofs.BillRows.{AreNumbered}
use Rattle.mrp_bill.proofs.lists.all.number_by_parents.Given as goal

abbrev pub invariant-loop-place : goal.invariant-loop-place
invariant-loop-place l = AreNumbered l.lines l.places l.place-index l.item (length l.fn.marks.items) l.fn.rows.items l.marks.items l.rows.items
