use Rattle.std.proofs.Common.{subst}
use Rattle.mrp_master.specs.AtpRow.{IsEarliestIn}
use Rattle.mrp_book.specs.Bookings.{lines_of}
use Rattle.mrp_book.proofs.Entries.{from_first}
use Rattle.mrp_master.proofs.EarliestRows.{earliest_row}
use Rattle.mrp_book.proofs.state.BookState.earliest.Goals as goal

pub returns : goal.returns
returns c =
    let b = c.args.self.now in
    earliest_row b.supply c.row.ensures.supplied c.args.item c.requires (lines_of b.standing) (from_first b.supply b.standing c.row.ensures.booked) c.row.ensures.booked.covered c.args.quantity c.earliest.result
    (subst (λ r. IsEarliestIn r c.args.quantity c.earliest.result) c.row.ensures.row c.earliest.ensures)
