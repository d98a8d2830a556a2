use Rattle.std.proofs.Common.{◌≡◌, ◌∙◌, ◌<◌, List, length, get_or, ap, sym, subst, arith}
use Rattle.mrp_book.specs.declared.made.Made.{Made}
use Rattle.mrp_book.proofs.MadeLists.{at_made, length-made_of}
use Rattle.mrp_book.proofs.made.MadeList.at.Goals as goal

pub at-requires : goal.at-requires
at-requires c =
    let i = c.self.inside in
    omega (arith, c.requires, c.self.invariant, ap length c.self.view_is, length-made_of i.bookings i.stands.items c.self.invariant)

pub index-requires : goal.index-requires
index-requires c =
    let i = c.self.inside in
    omega (arith, c.requires, i.stands.ok.0, ap length c.self.view_is, length-made_of i.bookings i.stands.items c.self.invariant)

pub returns : goal.returns
returns c =
    let i = c.self.inside in
    let made : Made = record { booking = c.at.result; stands = c.index.result.now } in
    let within : c.args.place < length i.stands.items = omega (arith, c.requires, ap length c.self.view_is, length-made_of i.bookings i.stands.items c.self.invariant) in
    let read : made ≡ record { booking = get_or i.bookings c.args.place c.at.result; stands = get_or i.stands.items c.args.place c.index.result.now } =
    (λ j. record { booking = c.at.ensures j; stands = c.index.ensures j }) in
    subst (λ (all : List Made). made ≡ get_or all c.args.place made) c.self.view_is (read ∙ sym (at_made i.bookings i.stands.items c.args.place made c.self.invariant within))
