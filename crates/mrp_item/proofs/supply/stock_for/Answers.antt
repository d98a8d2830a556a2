use Rattle.std.proofs.Common.{◌≡◌, ◌∙◌, arith, ap}
use Rattle.std.proofs.lemmas.Result.{err_from_is_err_and}
use Rattle.mrp_phase.specs.Weeks.{row}
use Rattle.mrp_item.specs.Inputs.{horizon, item_at}
use Rattle.mrp_item.specs.Rows.{scheduled_in}
use Rattle.mrp_item.proofs.DueRows.{dated-row, dated-past}
use Rattle.mrp_item.proofs.supply.stock_for.Goals as goal

pub returns-in_err-scheduled-clause-over : goal.returns-in_err-scheduled-clause-over
returns-in_err-scheduled-clause-over c =
    let p = err_from_is_err_and c.from_residual.result c.from_residual.ensures.1 in
    let s = c.args.inputs.now in
    let i = c.args.item in
    rw (p.1, p.2) (λ over.
    let past = dated-past c.scheduled_dues.result.now (scheduled_in s i) (horizon s) (λ week. let same = c.scheduled_dues.ensures week in omega (arith, same)) (rw c.weeks.ensures.value at (c.in_err-scheduled.ensures.over over)) in
    omega (arith, past))

pub returns-clause-value : goal.returns-clause-value
returns-clause-value c =
    let s = c.args.inputs.now in
    let i = c.args.item in
    let scheduled : c.in_ok-scheduled.scheduled ≡ row (horizon s) (scheduled_in s i) =
    dated-row c.scheduled_dues.result.now (scheduled_in s i) c.weeks.result c.in_ok-scheduled.scheduled c.scheduled_dues.ensures c.in_ok-scheduled.ensures.value ∙ ap (λ n. row n (scheduled_in s i)) c.weeks.ensures.value in
    let safety : c.entry-entry.result.safety ≡ (item_at s i).safety = ap (λ e. e.safety) c.entry-entry.ensures.value in
    λ k. record { on_hand = c.on_hand-on_hand.ensures k; safety = safety k; scheduled = scheduled k }
