use Rattle.std.proofs.Common.{◌≡◌, ◌∙◌, ◌+◌, ◌<◌, length, map, arith}
use Rattle.std.specs.List.{enumerate_from}
use Rattle.mrp_peg.specs.Rows.{order_requirement}
use Rattle.mrp_peg.proofs.Placed.{order_at, orders_long, put_all_of, put_next, put_none_of}
use Rattle.mrp_peg.proofs.parents.put_all.Goals as goal

pub loop-place-init : goal.loop-place-init
loop-place-init c = λ count placed rest are. put_none_of count placed rest (map (order_requirement c.args.item c.args.by.now.line c.args.by.now.per) (enumerate_from 1 c.args.by.now.orders.now)) c.args.next.now c.args.needs.now are

pub loop-place-preserved : goal.loop-place-preserved
loop-place-preserved c = λ count placed rest are.
    let by = c.args.by.now in
    let orders = by.orders.now in
    let k = c.loop-place.place in
    let o = c.index-orders-place.result in
    let own = map (order_requirement c.args.item by.line by.per) (enumerate_from 1 orders) in
    let one = c.requirement_of.result in
    let there : k < length own = omega (arith, c.loop-place-test.true, orders_long c.args.item by.line by.per orders) in
    let is : one ≡ order_requirement c.args.item by.line by.per (k + 1, o) = c.requirement_of.ensures in
    put_next count placed rest own k one c.loop-place.next c.loop-place.needs c.put.new.next c.put.new.needs there
    (is ∙ order_at c.args.item by.line by.per k orders o one c.loop-place-test.true c.index-orders-place.is) c.put.ensures (c.loop-place.invariant count placed rest are)

pub returns : goal.returns
returns c = λ count placed rest are.
    let by = c.args.by.now in
    let own = map (order_requirement c.args.item by.line by.per) (enumerate_from 1 by.orders.now) in
    put_all_of count placed rest own c.loop-place.place c.loop-place.next c.loop-place.needs (omega (arith, c.loop-place-test.false, orders_long c.args.item by.line by.per by.orders.now)) (c.loop-place.invariant count placed rest are)
