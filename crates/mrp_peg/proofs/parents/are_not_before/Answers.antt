use Rattle.std.proofs.Common.{◌<◌, length, ap, arith}
use Rattle.std.specs.List.{slice_index_or}
use Rattle.std.proofs.lemmas.Bool.{le-ltb, leb-true}
use Rattle.std.proofs.lemmas.List.{get_or_default}
use Rattle.mrp_item.specs.declared.order.Order.{Order}
use Rattle.mrp_peg.proofs.parents.are_not_before.Goals as goal

pub returns-else-place-orders : goal.returns-else-place-orders
returns-else-place-orders c told k d from h =
    let orders = c.args.orders.now in
    let place = c.args.place in
    let r = c.index-orders-place.result in
    let inside : place < length orders = omega (arith, from, h) in
    let same = ap (λ (o : Order). o.release) (get_or_default orders place d r inside) in
    let up = c.requires place k d from h in
    le-ltb (slice_index_or orders k d).release c.args.week (omega (arith, leb-true c.args.week (slice_index_or orders place r).release told, same, up))
