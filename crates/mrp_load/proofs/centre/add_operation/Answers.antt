use Rattle.std.proofs.Common.{◌∙◌, arith}
use Rattle.mrp_load.proofs.Summing.{operation_load-few, row-none, set-more, sum-fits}
use Rattle.mrp_load.proofs.centre.add_operation.Goals as goal

pub loop-order-init : goal.loop-order-init
loop-order-init c = row-none c.args.loads.now.items c.args.operation.now

pub overflow_add-index_mut : goal.overflow_add-index_mut
overflow_add-index_mut c =
    omega (
      arith,
      sum-fits c.args.loads.now.items c.args.orders.now c.loop-order.order-index c.order-item.result c.args.operation.now c.loop-order.loads.items c.from-place.result c.index_mut.result.now
          c.standard_time.result c.requires.orders c.requires.setup c.requires.run c.requires.room c.loop-order-test.true c.order-item.is c.loop-order.invariant
          (c.from-place.ensures ∙ c.operation_week.ensures) c.standard_time.ensures c.index_mut.ensures.value,
    )

pub loop-order-preserved : goal.loop-order-preserved
loop-order-preserved c =
    set-more c.args.loads.now.items c.args.orders.now c.loop-order.order-index c.order-item.result c.args.operation.now c.loop-order.loads.items c.from-place.result c.index_mut.result.now
    c.standard_time.result c.requires.orders c.loop-order-test.true c.order-item.is c.loop-order.invariant
    (c.from-place.ensures ∙ c.operation_week.ensures) c.standard_time.ensures c.index_mut.ensures.value

pub returns-clause-within : goal.returns-clause-within
returns-clause-within c = λ week. operation_load-few c.args.operation.now c.args.orders.now week c.requires.setup c.requires.run c.requires.orders.few c.requires.orders.starts
