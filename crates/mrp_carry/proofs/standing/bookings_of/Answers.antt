use Rattle.std.proofs.Common.{◌≡◌, ◌∙◌, List, refl, sym}
use Rattle.std.proofs.lemmas.List.{map-id}
use Rattle.std.specs.Iterator.{YieldsFirst}
use Rattle.std.proofs.lemmas.Iterator.{YieldsList}
use Rattle.std.proofs.lemmas.Iterator.Consumers.{YieldsList-end, YieldsList-from_first}
use Rattle.mrp_book.specs.declared.booking.Booking.{Booking}
use Rattle.mrp_carry.proofs.standing.bookings_of.Goals as goal

-- the iterator gives the standing bookings
gives : (all : List Booking) → YieldsList (YieldsFirst (λ (s : List Booking). s)) (λ (b : Booking). b) all all
gives all = YieldsList-from_first (λ (b : Booking). b) (λ (s : List Booking). s) all refl

pub returns : goal.returns
returns c =
    let all = c.args.snapshot.now.standing in
    let given : c.into_iter-booking-iterator.result ≡ all = c.into_iter-booking-iterator.ensures.into_iter_gives ∙ c.standing-booking-items.ensures in
    let ended = YieldsList-end (gives c.into_iter-booking-iterator.result) c.loop-booking.yielded c.loop-booking.booking-iterator c.loop-booking.yielded_by c.next.result c.next.new.self c.in-None.is c.next.ensures.steps in
    c.loop-booking.invariant ∙ sym (map-id c.loop-booking.yielded) ∙ ended.0 ∙ given
