use Rattle.std.proofs.Common.{subst, sym}
use Rattle.mrp_master.specs.AtpRow.{IsAvailableIn, IsWeekOf}
use Rattle.mrp_book.specs.Bookings.{lines_of}
use Rattle.mrp_book.proofs.Entries.{from_first}
use Rattle.mrp_master.proofs.ItemRows.{available_row, week_of_row}
use Rattle.mrp_book.proofs.state.BookState.available.Goals as goal

pub available-requires : goal.available-requires
available-requires c =
    let b = c.args.self.now in
    subst (λ r. IsWeekOf r c.args.week) (sym c.row.ensures.row) (week_of_row b.supply c.args.item (lines_of b.standing) c.args.week c.requires.week)

pub returns : goal.returns
returns c =
    let b = c.args.self.now in
    available_row b.supply c.row.ensures.supplied c.args.item c.requires.item (lines_of b.standing) (from_first b.supply b.standing c.row.ensures.booked) c.row.ensures.booked.covered c.args.week c.available.result c.requires.week
    (subst (λ r. IsAvailableIn r c.args.week c.available.result) c.row.ensures.row c.available.ensures)
