use Rattle.std.proofs.Common.{◌≡◌, ◌∙◌, max, length, arith, ap, sym}
use Rattle.std.proofs.lemmas.Result.{err_from_is_err_and}
use Rattle.mrp_phase.specs.Weeks.{row, in_week}
use Rattle.mrp_phase.proofs.WeekRows.{length-row, row_same, in_week_row}
use Rattle.mrp_item.specs.Inputs.{horizon}
use Rattle.mrp_item.specs.Rows.{independent_demand, forecast, booked}
use Rattle.mrp_item.specs.Dues.{due_sum}
use Rattle.mrp_item.proofs.DueRows.{dated-row, dated-past, due_sum-forecast, due_sum-bookings}
use Rattle.mrp_item.proofs.supply.independent_demand.Goals as goal

pub returns-in_err-forecast-clause-over : goal.returns-in_err-forecast-clause-over
returns-in_err-forecast-clause-over c =
    let p = err_from_is_err_and c.from_residual.result c.from_residual.ensures.1 in
    let s = c.args.inputs.now in
    let i = c.args.item in
    rw (p.1, p.2) (λ over.
    dated-past c.forecasts.result.now (independent_demand s i) (horizon s) (λ week. omega (arith, ap (λ dues. due_sum dues week) c.forecasts.ensures, due_sum-forecast s i week))
    (rw c.weeks-weeks.ensures.value at (c.in_err-forecast.ensures.over over)))

pub returns-in_err-booked-clause-over : goal.returns-in_err-booked-clause-over
returns-in_err-booked-clause-over c =
    let p = err_from_is_err_and c.from_residual-in_err-booked.result c.from_residual-in_err-booked.ensures.1 in
    let s = c.args.inputs.now in
    let i = c.args.item in
    rw (p.1, p.2) (λ over.
    dated-past c.bookings.result.now (independent_demand s i) (horizon s) (λ week. omega (arith, ap (λ dues. due_sum dues week) c.bookings.ensures.dues, due_sum-bookings s i week))
    (rw c.weeks-weeks.ensures.value at (c.in_err-booked.ensures.over over)))

pub higher-requires : goal.higher-requires
higher-requires c =
    ap length (c.as_slice-2.ensures ∙ c.in_ok-booked.ensures.value) ∙ length-row (due_sum c.bookings.result.now) c.weeks-weeks.result
    ∙ sym (ap length (c.as_slice.ensures ∙ c.in_ok-forecast.ensures.value) ∙ length-row (due_sum c.forecasts.result.now) c.weeks-weeks.result)

pub returns-clause-value : goal.returns-clause-value
returns-clause-value c =
    let s = c.args.inputs.now in
    let i = c.args.item in
    let forecasts = c.as_slice.result.now in
    let bookings = c.as_slice-2.result.now in
    let forecast_row : forecasts ≡ row (horizon s) (forecast s i) =
    c.as_slice.ensures ∙ dated-row c.forecasts.result.now (forecast s i) c.weeks-weeks.result c.in_ok-forecast.forecast (λ week. ap (λ dues. due_sum dues week) c.forecasts.ensures ∙ due_sum-forecast s i week) c.in_ok-forecast.ensures.value
    ∙ ap (λ n. row n (forecast s i)) c.weeks-weeks.ensures.value in
    let booked_row : bookings ≡ row (horizon s) (booked s i) =
    c.as_slice-2.ensures ∙ dated-row c.bookings.result.now (booked s i) c.weeks-weeks.result c.in_ok-booked.booked (λ week. ap (λ dues. due_sum dues week) c.bookings.ensures.dues ∙ due_sum-bookings s i week) c.in_ok-booked.ensures.value
    ∙ ap (λ n. row n (booked s i)) c.weeks-weeks.ensures.value in
    c.in_ok-higher.ensures
    ∙ ap (λ n. row n (λ week. max (in_week forecasts week) (in_week bookings week))) (ap length forecast_row ∙ length-row (forecast s i) (horizon s))
    ∙ row_same (λ week. max (in_week forecasts week) (in_week bookings week)) (independent_demand s i) (horizon s)
    (λ week a b. omega (arith, ap (λ xs. in_week xs week) forecast_row, ap (λ xs. in_week xs week) booked_row, in_week_row (forecast s i) (horizon s) week a b, in_week_row (booked s i) (horizon s) week a b))
