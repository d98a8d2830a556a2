use Rattle.std.proofs.Common.{◌≡◌, ◌∙◌, ◌<◌, List, false, length, get_or, set, ap, sym, subst, arith}
use Rattle.mrp_book.specs.declared.booking.Booking.{Booking}
use Rattle.mrp_book.specs.declared.made.Made.{Made}
use Rattle.mrp_book.specs.Made.{made_of}
use Rattle.mrp_book.proofs.MadeLists.{at_made, length-made_of, made_of-set}
use Rattle.mrp_book.proofs.made.MadeList.cancel.Goals as goal

pub index_mut-requires : goal.index_mut-requires
index_mut-requires c =
    let i = c.self.inside in
    omega (arith, c.requires, i.stands.ok.0, ap length c.self.view_is, length-made_of i.bookings i.stands.items c.self.invariant)

pub returns-clause-after : goal.returns-clause-after
returns-clause-after c =
    let i = c.self.inside in
    let place = c.args.place in
    let m : Made = c.at-made.result in
    let before : List Made = made_of i.bookings i.stands.items in
    let within : place < length i.stands.items = omega (arith, c.requires, ap length c.self.view_is, length-made_of i.bookings i.stands.items c.self.invariant) in
    let read : m ≡ get_or before place m = subst (λ (all : List Made). m ≡ get_or all place m) (sym c.self.view_is) c.at-made.ensures in
    let own : m.booking ≡ get_or i.bookings place m.booking = ap (λ (x : Made). x.booking) (read ∙ at_made i.bookings i.stands.items place m c.self.invariant within) in
    made_of-set i.bookings i.stands.items place false m.booking c.self.invariant within
    ∙ ap (λ (b : Booking). set before place (record { booking = b; stands = false })) (sym own)
    ∙ ap (λ (all : List Made). set all place (record { booking = m.booking; stands = false })) c.self.view_is
