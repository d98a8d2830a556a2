use Rattle.std.proofs.Common.{◌∙◌, ap, sym}
use Rattle.mrp_tables.specs.Tables.{Tables}
use Rattle.mrp_item.proofs.Bookings.{bookings-fit, rebooked-from}
use Rattle.mrp_item.proofs.carrying.is_rebooked.Goals as goal

pub differ_by_week-requires-clause-one : goal.differ_by_week-requires-clause-one
differ_by_week-requires-clause-one c =
    bookings-fit c.args.old.now c.args.item c.bookings.result.now c.weeks.result (ap (λ (t : Tables). t.calendar.weeks) c.requires.tables ∙ sym c.weeks.ensures.value) c.bookings.ensures.dues c.bookings.ensures.booked

pub differ_by_week-requires-clause-other : goal.differ_by_week-requires-clause-other
differ_by_week-requires-clause-other c =
    bookings-fit c.args.new.now c.args.item c.bookings-2.result.now c.weeks.result (sym c.weeks.ensures.value) c.bookings-2.ensures.dues c.bookings-2.ensures.booked

pub returns : goal.returns
returns c =
    rebooked-from c.args.old.now c.args.new.now c.args.item c.weeks.result c.bookings.result.now c.bookings-2.result.now c.weeks.ensures.value c.bookings.ensures.dues c.bookings-2.ensures.dues
    c.differ_by_week.result c.differ_by_week.ensures
