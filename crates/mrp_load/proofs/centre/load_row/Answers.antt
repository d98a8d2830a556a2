use Rattle.std.proofs.Common.{◌≡◌, ◌∙◌, ◌*◌, ℕ, List, length, replicate, take, take_all, ap, subst, sym, arith}
use Rattle.mrp_phase.specs.Weeks.{in_week, row}
use Rattle.mrp_phase.proofs.WeekRows.{length-row}
use Rattle.mrp_tables.specs.declared.rows.Operation.{Operation}
use Rattle.mrp_item.specs.Inputs.{horizon}
use Rattle.mrp_load.specs.Bounds.{AreOrders}
use Rattle.mrp_load.specs.Loads.{load_by}
use Rattle.mrp_load.proofs.Summing.{load_by-none, load_row-more, loads_by-row, row-within}
use Rattle.mrp_load.proofs.centre.load_row.Goals as goal

pub loop-operation-init : goal.loop-operation-init
loop-operation-init c =
    let s = c.args.plan.now.inputs in
    let weeks : c.from-weeks.result ≡ horizon s = c.from-weeks.ensures ∙ c.weeks.ensures.value ∙ ap horizon (c.deref.ensures ∙ c.inputs.ensures.inputs) in
    record {
      loads = c.in_ok-loads.ensures.items_if_clones_equal (λ y e. e) ∙ ap (λ (n : ℕ). replicate n 0) weeks ∙ load_by-none s (horizon s);
      few = λ week. omega arith;
    }

pub add_operation-requires-clause-orders : goal.add_operation-requires-clause-orders
add_operation-requires-clause-orders c =
    let s = c.args.plan.now.inputs in
    let so_far = take c.loop-operation.operation-index c.args.operations.now in
    let long : length c.loop-operation.loads.items ≡ horizon s = ap length c.loop-operation.invariant.loads ∙ length-row (load_by s so_far) (horizon s) in
    subst (λ (n : ℕ). AreOrders n c.orders_of.result.now) (sym long) c.orders_of.ensures.within

pub add_operation-requires-clause-room : goal.add_operation-requires-clause-room
add_operation-requires-clause-room c = λ week.
    let s = c.args.plan.now.inputs in
    let so_far = take c.loop-operation.operation-index c.args.operations.now in
    omega (
      arith,
      ap (λ (xs : List ℕ). in_week xs week) c.loop-operation.invariant.loads,
      row-within (load_by s so_far) (horizon s) (c.loop-operation.operation-index * 39614081257132168796771975168) c.loop-operation.invariant.few week,
      c.loop-operation-test.true,
      c.requires.few,
    )

pub loop-operation-preserved : goal.loop-operation-preserved
loop-operation-preserved c =
    load_row-more c.args.plan.now.inputs c.args.operations.now c.loop-operation.operation-index _ c.orders_of.result.now c.loop-operation.loads.items c.add_operation.new.loads.items c.loop-operation-test.true
    (record { own = c.orders_of.ensures.orders; loads = c.add_operation.ensures.loads; within = c.add_operation.ensures.within }) c.loop-operation.invariant

pub returns : goal.returns
returns c =
    let s = c.args.plan.now.inputs in
    c.loop-operation.invariant.loads
    ∙ ap (λ (os : List Operation). row (horizon s) (load_by s os)) (take_all c.loop-operation.operation-index c.args.operations.now c.loop-operation-test.false)
    ∙ sym (loads_by-row s c.args.operations.now)
