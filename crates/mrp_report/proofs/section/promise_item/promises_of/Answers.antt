use Rattle.std.proofs.Common.{sym, subst}
use Rattle.mrp_master.specs.Supply.{IsMaster, IsWeek, Supply}
use Rattle.mrp_master.specs.AtpRow.{IsCoveredRow, IsWeekOf, with_booking}
use Rattle.mrp_book.specs.Booked.{AreBooked}
use Rattle.mrp_report.proofs.lemmas.section.PromiseBookings.{all-taken, due-inside, is-master, may-take, none-taken, one-taken}
use Rattle.mrp_report.proofs.section.promise_item.promises_of.Goals as goal

pub loop-due-init : goal.loop-due-init
loop-due-init c = none-taken c.args.supply.now c.args.item c.in_ok-row.row c.in_ok-row.ensures

pub take-requires : goal.take-requires
take-requires c =
    let s = c.args.inputs.now in
    let supply = c.args.supply.now in
    let dues = c.bookings-due-items.result.now in
    let stands : AreBooked supply s.standing = subst (λ (x : Supply). AreBooked x s.standing) (sym c.requires.supply) c.bookings-due-items.ensures.booked in
    let master : IsMaster supply c.args.item = subst (λ (x : Supply). IsMaster x c.args.item) (sym c.requires.supply) (is-master s c.args.item c.requires.within c.requires.master) in
    let may : IsWeekOf c.loop-due.row c.due-item.result.week × IsCoveredRow (with_booking c.loop-due.row c.due-item.result.week c.due-item.result.quantity) =
    may-take s supply c.args.item dues c.loop-due.due-index c.due-item.result c.loop-due.row c.requires.kept stands master c.bookings-due-items.ensures.dues c.loop-due-test.true c.due-item.is c.loop-due.invariant in
    record { week = may.0; available = may.1 }

pub loop-due-preserved : goal.loop-due-preserved
loop-due-preserved c =
    let s = c.args.inputs.now in
    let supply = c.args.supply.now in
    let dues = c.bookings-due-items.result.now in
    let stands : AreBooked supply s.standing = subst (λ (x : Supply). AreBooked x s.standing) (sym c.requires.supply) c.bookings-due-items.ensures.booked in
    let inside : IsWeek supply c.due-item.result.week =
    due-inside supply s.standing c.args.item c.loop-due.due-index c.due-item.result dues stands c.bookings-due-items.ensures.dues c.loop-due-test.true c.due-item.is in
    one-taken supply c.args.item dues c.loop-due.due-index c.due-item.result c.loop-due.row c.take.new.self c.loop-due-test.true c.due-item.is inside c.loop-due.invariant c.take.ensures

pub returns-clause-stands : goal.returns-clause-stands
returns-clause-stands c = subst (λ (x : Supply). AreBooked x c.args.inputs.now.standing) (sym c.requires.supply) c.bookings-due-items.ensures.booked

pub returns-clause-row : goal.returns-clause-row
returns-clause-row c =
    all-taken c.args.inputs.now c.args.supply.now c.args.item c.bookings-due-items.result.now c.loop-due.due-index c.loop-due.row c.requires.supply c.bookings-due-items.ensures.dues
    c.loop-due-test.false c.loop-due.invariant
