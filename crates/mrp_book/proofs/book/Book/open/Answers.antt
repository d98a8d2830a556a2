use Rattle.mrp_book.proofs.States.{keeps_none}
use Rattle.mrp_book.proofs.book.Book.open.Goals as goal

pub invariant_of-result : goal.invariant_of-result
invariant_of-result c = keeps_none _ _ _ c.in_ok-state.ensures c.new-entries.ensures.items
