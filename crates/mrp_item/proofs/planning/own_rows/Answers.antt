use Rattle.std.proofs.Common.{◌≡◌, ◌∙◌, ◌≤◌, List, length, subst, sym, ap, arith, rules}
use Rattle.std.specs.Prelude.{slice_index, sum_by}
use Rattle.std.proofs.lemmas.Result.{err_from_is_err_and}
use Rattle.mrp_qty.specs.Quantity.{greatest_quantity}
use Rattle.mrp_phase.specs.Weeks.{in_week}
use Rattle.mrp_phase.proofs.WeekRows.{length-row}
use Rattle.mrp_lots.specs.Lots.{receipts}
use Rattle.mrp_item.specs.declared.order.Order.{Order}
use Rattle.mrp_item.specs.Inputs.{horizon, item_at}
use Rattle.mrp_item.specs.Kept.{AreRowsOf}
use Rattle.mrp_item.specs.declared.planned.PlanRows.{PlanRows}
use Rattle.mrp_item.specs.Lot.{rule_of}
use Rattle.mrp_item.specs.Orders.{orders_of}
use Rattle.mrp_item.specs.Own.{AreWithin, ArePast, own_gross}
use Rattle.mrp_item.specs.Plan.{gross_in, needs_of, outcome_of, receipts_of}
use Rattle.mrp_item.specs.Plan as plan
use Rattle.mrp_item.proofs.OwnPlan.{gross-over, past-over, starts-over, within-planned}
use Rattle.mrp_item.proofs.planning.own_rows.Goals as goal

pub returns-in_err-gross-clause-over : goal.returns-in_err-gross-clause-over
returns-in_err-gross-clause-over g c =
    let p = err_from_is_err_and c.from_residual.result c.from_residual.ensures.1 in
    let s = c.args.inputs.now in
    rw (p.1, p.2) (λ over. gross-over s (slice_index c.shop-ranked.result.now.codes) c.args.item c.shop-ranked.ensures.ranked c.requires.ready (c.in_err-gross.ensures.over over))

pub own_receipts-requires-clause-weeks : goal.own_receipts-requires-clause-weeks
own_receipts-requires-clause-weeks g c =
    let s = c.args.inputs.now in
    ap length c.in_ok-gross.ensures.value ∙ length-row (gross_in s c.args.item (outcome_of s)) (horizon s)

pub returns-in_err-receipts-clause-over : goal.returns-in_err-receipts-clause-over
returns-in_err-receipts-clause-over g c =
    let p = err_from_is_err_and c.from_residual-in_err-receipts.result c.from_residual-in_err-receipts.ensures.1 in
    let s = c.args.inputs.now in
    let i = c.args.item in
    rw (p.1, p.2) (λ over. past-over s (slice_index c.shop-ranked.result.now.codes) i c.shop-ranked.ensures.ranked c.requires.ready
    (let P : List _ → Type 0 = λ gross. ArePast s i gross in subst P c.in_ok-gross.ensures.value (c.in_err-receipts.ensures.over over)))

pub orders_for-requires-clause-weeks : goal.orders_for-requires-clause-weeks
orders_for-requires-clause-weeks g c =
    let s = c.args.inputs.now in
    let i = c.args.item in
    ap length (c.as_slice.ensures ∙ c.in_ok-receipts.ensures.value) ∙ length-row (receipts (rule_of (item_at s i)) (horizon s) (in_week (needs_of s i c.in_ok-gross.gross))) (horizon s)

pub returns-in_err-orders_for-clause-over : goal.returns-in_err-orders_for-clause-over
returns-in_err-orders_for-clause-over g c =
    let p = err_from_is_err_and c.from_residual-in_err-orders_for.result c.from_residual-in_err-orders_for.ensures.1 in
    let s = c.args.inputs.now in
    let i = c.args.item in
    let are : c.as_slice.result.now ≡ receipts_of s i (own_gross s i) = c.as_slice.ensures ∙ c.in_ok-receipts.ensures.value ∙ ap (receipts_of s i) c.in_ok-gross.ensures.value in
    rw (p.1, p.2) (λ over. starts-over s (slice_index c.shop-ranked.result.now.codes) i c.shop-ranked.ensures.ranked c.requires.ready
    (omega (arith, c.in_err-orders_for.ensures.over over, ap (λ xs. sum_by (λ (o : Order). o.start) (orders_of s i xs)) are)))

pub returns-clause-rows : goal.returns-clause-rows
returns-clause-rows g c =
    let s = c.args.inputs.now in
    let i = c.args.item in
    let gross = c.in_ok-gross.ensures.value in
    let received : c.in_ok-receipts.receipts ≡ receipts_of s i (own_gross s i) = c.in_ok-receipts.ensures.value ∙ ap (receipts_of s i) gross in
    let orders : c.into_vec-orders.result.items ≡ orders_of s i (receipts_of s i (own_gross s i)) =
    c.into_vec-orders.ensures.orders ∙ c.in_ok-orders_for.ensures.value ∙ ap (orders_of s i) (c.as_slice.ensures ∙ received) in
    let starts : sum_by (λ (o : Order). o.start) (orders_of s i (receipts_of s i (own_gross s i))) ≤ greatest_quantity = omega (arith, c.into_vec-orders.ensures.within, ap (sum_by (λ (o : Order). o.start)) (sym c.into_vec-orders.ensures.orders ∙ orders)) in
    let within : AreWithin s i (own_gross s i) = (let P : List _ → Type 0 = λ xs. AreWithin s i xs in subst P gross c.in_ok-receipts.ensures.within) in
    let rows : PlanRows = record { gross = c.in_ok-gross.gross; receipts = c.in_ok-receipts.receipts; orders = c.into_vec-orders.result; started = c.in_ok-started.started } in
    let own : AreRowsOf s i rows = record {
      outcome =
          within-planned s (slice_index c.shop-ranked.result.now.codes) i c.shop-ranked.ensures.ranked c.requires.ready within starts
          ∙ sym (λ k. plan.Planned (record { gross = gross k; receipts = received k; orders = orders k }));
      started = search rules;
    } in
    subst (λ (r : PlanRows). AreRowsOf s i r) (sym c.in_ok-new.ensures.ok) own
