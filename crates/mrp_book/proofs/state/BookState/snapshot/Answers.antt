use Rattle.std.proofs.Common.{◌≡◌, List, ℕ, ap, subst, sym}
use Rattle.mrp_book.specs.declared.booking.Booking.{Booking}
use Rattle.mrp_book.specs.Bookings.{AreLittle}
use Rattle.mrp_book.specs.Made.{standing_of}
use Rattle.mrp_book.proofs.Demands.{little_booked}
use Rattle.mrp_book.proofs.state.BookState.snapshot.Goals as goal

pub of-requires : goal.of-requires
of-requires c =
    let i = c.self.inside in
    let same : standing_of c.in_ok-made.made ≡ standing_of i.made = ap standing_of c.in_ok-made.ensures in
    subst (λ (w : ℕ). AreLittle w (standing_of c.in_ok-made.made)) (sym c.weeks.ensures.value)
    (subst (λ (x : List Booking). AreLittle i.supply.weeks x) (sym same) (little_booked i.supply (standing_of i.made) c.self.invariant.supplied c.self.invariant.booked))
