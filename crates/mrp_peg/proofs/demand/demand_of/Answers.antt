use Rattle.std.proofs.Common.{◌∙◌, ◌++◌, ap, map, length}
use Rattle.std.specs.Prelude.{flat_map}
use Rattle.mrp_phase.specs.Weeks.{row, weeks}
use Rattle.mrp_phase.proofs.WeekRows.{length-row}
use Rattle.mrp_peg.specs.Rows.{beyond, booking_requirement, forecast_requirements}
use Rattle.mrp_peg.proofs.demand.demand_of.Goals as goal

pub add_forecasts-requires : goal.add_forecasts-requires
add_forecasts-requires c =
    ap length (c.as_slice.ensures.value ∙ c.in_ok-left.ensures) ∙ length-row (beyond c.args.demand.now c.args.bookings.now) (length c.args.demand.now) ∙ c.requires.weeks

pub returns : goal.returns
returns c =
    let left = c.as_slice.ensures.value ∙ c.in_ok-left.ensures in
    let all = row (length c.args.demand.now) (beyond c.args.demand.now c.args.bookings.now) in
    c.in_ok-add_forecasts.ensures
    ∙ ap (λ l. c.add_bookings.new.needs.items ++ flat_map (forecast_requirements c.args.item l) (weeks c.args.horizon)) left
    ∙ ap (λ l. l ++ flat_map (forecast_requirements c.args.item all) (weeks c.args.horizon)) (c.in_ok-add_bookings.ensures ∙ ap (λ l. l ++ map (booking_requirement c.args.item) c.args.bookings.now) c.new-needs.ensures.items)
