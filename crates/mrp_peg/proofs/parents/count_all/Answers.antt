use Rattle.std.proofs.Common.{List, ◌+◌, ◌<◌, ◌++◌, length, map, take, take_all, sym, subst, refl, arith}
use Rattle.std.specs.List.{enumerate_from}
use Rattle.std.proofs.lemmas.List.{append-nil}
use Rattle.mrp_peg.specs.declared.matching.Requirement.{Requirement}
use Rattle.mrp_peg.specs.Placed.{AreCounted}
use Rattle.mrp_peg.specs.Rows.{order_requirement}
use Rattle.mrp_peg.proofs.Placed.{order_at, orders_long, taken_next}
use Rattle.mrp_peg.proofs.parents.count_all.Goals as goal

pub loop-order-init : goal.loop-order-init
loop-order-init c = λ count item line per counted are. subst (λ (l : List Requirement). AreCounted count l c.args.counts.now) (sym (append-nil counted)) are

pub loop-order-preserved : goal.loop-order-preserved
loop-order-preserved c = λ count item line per counted are.
    let orders = c.args.orders.now in
    let k = c.loop-order.order-index in
    let o = c.order-item.result in
    let own = map (order_requirement item line per) (enumerate_from 1 orders) in
    let one = order_requirement item line per (k + 1, o) in
    let there : k < length own = omega (arith, c.loop-order-test.true, orders_long item line per orders) in
    subst (λ (l : List Requirement). AreCounted count l c.count_one.new.counts)
    (taken_next counted own k one there (order_at item line per k orders o one c.loop-order-test.true c.order-item.is))
    (c.in_ok-count_one.ensures count (counted ++ take k own) one refl (c.loop-order.invariant count item line per counted are))

pub returns : goal.returns
returns c = λ count item line per counted are.
    let orders = c.args.orders.now in
    let own = map (order_requirement item line per) (enumerate_from 1 orders) in
    subst (λ (l : List Requirement). AreCounted count (counted ++ l) c.loop-order.counts)
    (take_all c.loop-order.order-index own (omega (arith, c.loop-order-test.false, orders_long item line per orders)))
    (c.loop-order.invariant count item line per counted are)
