use Rattle.mrp_book.proofs.AllRows.{AreRowsTo}
use Rattle.mrp_book.proofs.rows.rows_of.Given as goal

abbrev pub invariant-loop-item : goal.invariant-loop-item
invariant-loop-item l = AreRowsTo l.supply l.rows.items l.item
