use Rattle.std.proofs.Common.{◌≡◌, ◌∙◌, ap, sym, refl, subst, length, arith}
use Rattle.mrp_tables.specs.Tables.{Tables}
use Rattle.mrp_bill.specs.Bill.{IsOrder}
use Rattle.mrp_item.specs.Inputs.{Inputs, count}
use Rattle.mrp_explode.specs.Finished.{IsFinished}
use Rattle.mrp_explode.proofs.PlanOrder.{parents-ready, all-done, one-more-done}
use Rattle.mrp_explode.proofs.serial.plan_in_turn.Goals as goal

pub plan-requires-clause-ready : goal.plan-requires-clause-ready
plan-requires-clause-ready g c =
    let s = c.loop-item.finished.inputs in
    let tables : c.shop.result.now.tables ≡ s.tables =
    c.shop.ensures.tables ∙ ap (λ (x : Inputs). x.tables) c.deref.ensures ∙ sym (ap (λ (x : Inputs). x.tables) c.loop-item.invariant.0) in
    let order : IsOrder s.tables.bills (count s) c.order-item-items.result.now =
    subst (λ (t : Tables). IsOrder t.bills (length t.items) c.order-item-items.result.now) tables c.order-item-items.ensures in
    parents-ready s.tables.bills (count s) c.order-item-items.result.now c.loop-item.item-index (IsFinished c.loop-item.finished) order c.loop-item-test.true c.loop-item.invariant.1

pub into_whole-requires : goal.into_whole-requires
into_whole-requires g c =
    let s = c.loop-item.finished.inputs in
    let tables : c.shop.result.now.tables ≡ s.tables =
    c.shop.ensures.tables ∙ ap (λ (x : Inputs). x.tables) c.deref.ensures ∙ sym (ap (λ (x : Inputs). x.tables) c.loop-item.invariant.0) in
    let order : IsOrder s.tables.bills (count s) c.order-item-items.result.now =
    subst (λ (t : Tables). IsOrder t.bills (length t.items) c.order-item-items.result.now) tables c.order-item-items.ensures in
    all-done s.tables.bills (count s) c.order-item-items.result.now (IsFinished c.loop-item.finished) order (λ j h. c.loop-item.invariant.1 j (omega (arith, h, c.loop-item-test.false)))

pub loop-item-preserved : goal.loop-item-preserved
loop-item-preserved g c = (
  c.in_ok-plan.ensures.finishes.inputs ∙ c.loop-item.invariant.0,
  one-more-done c.order-item-items.result.now c.loop-item.item-index _ (IsFinished c.loop-item.finished) (IsFinished c.plan.new.self) refl c.loop-item.invariant.1 c.in_ok-plan.ensures.finishes.here
      c.in_ok-plan.ensures.finishes.others,
)
