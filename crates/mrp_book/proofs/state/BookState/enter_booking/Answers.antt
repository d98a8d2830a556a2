use Rattle.std.proofs.Common.{◌≡◌, ◌+◌, ◌<◌, ℕ, List, get_or, refl, set, subst, sym}
use Rattle.mrp_book.specs.declared.booking.Booking.{Booking}
use Rattle.mrp_book.specs.declared.call.Call.TheVariants as call
use Rattle.mrp_book.specs.declared.made.Made.{Made}
use Rattle.mrp_book.specs.Bookings.{lines_of}
use Rattle.mrp_master.specs.Supply.{CanPromise}
use Rattle.mrp_book.specs.History.{Fits}
use Rattle.mrp_book.specs.Made.{KeepsState, standing_of}
use Rattle.mrp_book.proofs.Entries.{keeps_booking, take_fits, take_week}
use Rattle.mrp_book.proofs.state.BookState.enter_booking.Goals as goal
use Rattle.mrp_book.proofs.state.BookState.enter_booking.Goals.{After-index_mut}

-- the row that is found is the item's
row_at : (c : After-index_mut) → c.index_mut.result.now ≡ get_or c.self.inside.rows.items c.args.line.item c.index_mut.result.now
row_at c = subst (λ (x : ℕ). c.index_mut.result.now ≡ get_or c.self.inside.rows.items x c.index_mut.result.now) c.item.ensures c.index_mut.ensures.value

pub invariant_of-self : goal.invariant_of-self
invariant_of-self c = let i = c.self.inside in subst (λ (x : List Made). KeepsState i.supply i.entries i.rows.items x) (sym c.in_err-push.ensures.refused) c.self.invariant

pub take-requires-clause-week : goal.take-requires-clause-week
take-requires-clause-week c =
    let i = c.self.inside in
    let b : Booking = record { number = i.entries + 1; desk = c.args.desk; line = c.args.line } in
    let fits : Fits i.supply (call.Book c.args.line) = subst (λ x. Fits x.supply (call.Book c.args.line)) (sym c.self.view_is) c.requires.fits in
    take_week i.supply i.entries i.rows.items i.made c.self.invariant b fits c.index_mut.result.now (row_at (goal.at.take-requires-clause-week c).After-index_mut)

pub take-requires-clause-available : goal.take-requires-clause-available
take-requires-clause-available c =
    let i = c.self.inside in
    let b : Booking = record { number = i.entries + 1; desk = c.args.desk; line = c.args.line } in
    let fits : Fits i.supply (call.Book c.args.line) = subst (λ x. Fits x.supply (call.Book c.args.line)) (sym c.self.view_is) c.requires.fits in
    let can : CanPromise i.supply (lines_of (standing_of i.made)) c.args.line.item c.args.line.quantity c.args.line.week =
    subst (λ x. CanPromise x.supply (lines_of x.standing) c.args.line.item c.args.line.quantity c.args.line.week) (sym c.self.view_is) c.requires.available in
    take_fits i.supply i.entries i.rows.items i.made c.self.invariant b fits can c.index_mut.result.now (row_at (goal.at.take-requires-clause-available c).After-index_mut)

pub invariant_of-self-2 : goal.invariant_of-self-2
invariant_of-self-2 c =
    let i = c.self.inside in
    let b : Booking = record { number = i.entries + 1; desk = c.args.desk; line = c.args.line } in
    let fits : Fits i.supply (call.Book c.args.line) = subst (λ x. Fits x.supply (call.Book c.args.line)) (sym c.self.view_is) c.requires.fits in
    let can : CanPromise i.supply (lines_of (standing_of i.made)) c.args.line.item c.args.line.quantity c.args.line.week =
    subst (λ x. CanPromise x.supply (lines_of x.standing) c.args.line.item c.args.line.quantity c.args.line.week) (sym c.self.view_is) c.requires.available in
    let few : i.entries < 1000000 = subst (λ x. x.entries < 1000000) (sym c.self.view_is) c.requires.few in
    subst (λ (x : ℕ). KeepsState i.supply (i.entries + 1) (set i.rows.items x c.take.new.row) c.push.new.self) (sym c.item.ensures)
    (keeps_booking i.supply i.entries i.rows.items i.made c.self.invariant b fits refl few can c.index_mut.result.now c.take.new.row (row_at (goal.at.invariant_of-self-2 c).After-index_mut) c.take.ensures
    c.push.new.self c.in_ok-push.ensures.pushed)
