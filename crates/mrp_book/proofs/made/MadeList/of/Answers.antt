use Rattle.std.proofs.Common.{◌≡◌, ◌∙◌, Bool, true, List, length, replicate, ap, arith}
use Rattle.mrp_book.specs.declared.booking.Booking.{Booking}
use Rattle.mrp_book.specs.Made.{made_of, standing_of}
use Rattle.mrp_book.proofs.MadeLists.{standing_of-all}
use Rattle.mrp_book.proofs.made.MadeList.of.Goals as goal

pub returns : goal.returns
returns c =
    let bs : List Booking = c.args.bookings.items in
    let flags : c.in_ok-stands.stands.items ≡ replicate c.len.result true = c.in_ok-stands.ensures.items_if_clones_equal (λ y same. same) in
    let count : c.len.result ≡ length bs = omega (arith, c.len.ensures, c.args.bookings.ok.0) in
    ap (λ (b : List Booking). standing_of (made_of b c.in_ok-stands.stands.items)) c.of-bookings.ensures
    ∙ ap (λ (s : List Bool). standing_of (made_of bs s)) (flags ∙ ap (λ n. replicate n true) count) ∙ standing_of-all bs
