use Rattle.std.proofs.Common.{◌≡◌, ◌∙◌, ◌++◌, ◌∷◌, [], Bool, true, List, ap}
use Rattle.mrp_book.specs.declared.booking.Booking.{Booking}
use Rattle.mrp_book.specs.declared.made.Made.{Made}
use Rattle.mrp_book.specs.Made.{made_of}
use Rattle.mrp_book.proofs.MadeLists.{made_of-push}
use Rattle.mrp_book.proofs.made.MadeList.push.Goals as goal

pub returns-clause-pushed : goal.returns-clause-pushed
returns-clause-pushed c =
    let i = c.self.inside in
    let b : Booking = c.args.booking in
    let flags : c.push_reserved.new.self.items ≡ i.stands.items ++ true ∷ [] = c.push_reserved.ensures.items ∙ ap (λ (ss : List Bool). ss ++ true ∷ []) c.try_reserve.ensures.items in
    ap (λ (bs : List Booking). made_of bs c.push_reserved.new.self.items) c.in_ok-push.ensures.pushed ∙ ap (λ (ss : List Bool). made_of (i.bookings ++ b ∷ []) ss) flags
    ∙ made_of-push i.bookings i.stands.items b true c.self.invariant ∙ ap (λ (all : List Made). all ++ record { booking = b; stands = true } ∷ []) c.self.view_is
