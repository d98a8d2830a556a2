use Rattle.std.proofs.Common.{◌≡◌, ◌∙◌, ◌+◌, ◌++◌, ◌<◌, List, map, length, get_or, sym, ap, arith, rules}
use Rattle.std.proofs.lemmas.Result.{err_from_is_err_and}
use Rattle.std.proofs.lemmas.Grind.{get_or_default_zero}
use Rattle.mrp_phase.specs.Weeks.{in_week}
use Rattle.mrp_phase.proofs.WeekRows.{in_week_next}
use Rattle.mrp_item.specs.declared.order.Order.{Order}
use Rattle.mrp_item.specs.declared.order.OrderKind.TheVariants.{Firm}
use Rattle.mrp_item.specs.Inputs.{horizon}
use Rattle.mrp_item.specs.Dues.{due_in}
use Rattle.mrp_item.specs.Orders.{order_of, planned_order}
use Rattle.mrp_item.proofs.OrderWeeks.{week_more, week_past}
use Rattle.mrp_item.proofs.orders.orders_for.Goals as goal

pub loop-place-init : goal.loop-place-init
unfolding in_week
loop-place-init c = record { orders = c.in_ok-list.ensures; before = search rules }

pub returns-in_err-add_week-clause-over : goal.returns-in_err-add_week-clause-over
returns-in_err-add_week-clause-over c =
    let p = err_from_is_err_and c.from_residual-in_err-add_week.result c.from_residual-in_err-add_week.ensures.1 in
    let s = c.args.inputs.now in
    let i = c.args.item in
    let receipts = c.args.receipts.now in
    let k = c.loop-place.place in
    let received = c.index-receipts-from.result in
    let entry = c.of-terms.result.item.now in
    let dues = c.firm-dues.result.now in
    let within : k < horizon s = omega (arith, c.weeks-place-end.ensures.value, c.loop-place-test.true) in
    let there : k < length receipts = omega (arith, within, c.requires.weeks) in
    let now : received ≡ in_week receipts (k + 1) = c.index-receipts-from.is ∙ ap (λ n. get_or receipts n received) c.from.ensures ∙ get_or_default_zero receipts k received there ∙ sym (in_week_next receipts k) in
    let tables = c.of-terms.result.tables.now in
    let tail = map (order_of tables entry Firm (k + 1)) (due_in (k + 1) dues) ++ planned_order tables entry (k + 1) c.loop-place.before received in
    let all = week_more s i k receipts dues c.loop-place.before received tables entry (c.of-terms.ensures.tables ∙ c.tables.ensures.value ∙ c.shop.ensures.tables) (c.of-terms.ensures.item ∙ c.entry-entry.ensures.value) c.firm-dues.ensures c.loop-place.invariant.before now in
    rw (p.1, p.2) (λ over.
    week_past s i k receipts (c.loop-place.list ++ tail) (ap (λ (xs : List Order). xs ++ tail) c.loop-place.invariant.orders ∙ all) within (c.in_err-add_week.ensures.over over))

pub loop-place-preserved : goal.loop-place-preserved
loop-place-preserved c =
    let s = c.args.inputs.now in
    let i = c.args.item in
    let receipts = c.args.receipts.now in
    let k = c.loop-place.place in
    let received = c.index-receipts-from.result in
    let entry = c.of-terms.result.item.now in
    let dues = c.firm-dues.result.now in
    let within : k < horizon s = omega (arith, c.weeks-place-end.ensures.value, c.loop-place-test.true) in
    let there : k < length receipts = omega (arith, within, c.requires.weeks) in
    let now : received ≡ in_week receipts (k + 1) = c.index-receipts-from.is ∙ ap (λ n. get_or receipts n received) c.from.ensures ∙ get_or_default_zero receipts k received there ∙ sym (in_week_next receipts k) in
    let tables = c.of-terms.result.tables.now in
    let tail = map (order_of tables entry Firm (k + 1)) (due_in (k + 1) dues) ++ planned_order tables entry (k + 1) c.loop-place.before received in
    let all = week_more s i k receipts dues c.loop-place.before received tables entry (c.of-terms.ensures.tables ∙ c.tables.ensures.value ∙ c.shop.ensures.tables) (c.of-terms.ensures.item ∙ c.entry-entry.ensures.value) c.firm-dues.ensures c.loop-place.invariant.before now in
    record {
      orders = c.in_ok-add_week.ensures.added ∙ ap (λ (xs : List Order). xs ++ tail) c.loop-place.invariant.orders ∙ all;
      before = now;
    }
