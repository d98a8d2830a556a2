use Rattle.std.proofs.Common.{◌-◌, ◌<◌, length, ap, arith}
use Rattle.std.specs.List.{slice_index_or}
use Rattle.std.proofs.lemmas.Bool.{lt-ltb, ltb-true}
use Rattle.std.proofs.lemmas.List.{get_or_default}
use Rattle.mrp_item.specs.declared.order.Order.{Order}
use Rattle.mrp_peg.proofs.parents.are_before.Goals as goal

pub returns-else-place-eq0 : goal.returns-else-place-eq0
returns-else-place-eq0 c told k d below =
    let orders = c.args.orders.now in
    let last = c.args.place - 1 in
    let r = c.index-orders-place.result in
    let inside : last < length orders = omega (arith, below, c.requires.within) in
    let same = ap (λ (o : Order). o.release) (get_or_default orders last d r inside) in
    let up = c.requires.rising k last d (omega (arith, below)) inside in
    lt-ltb (slice_index_or orders k d).release c.args.week (omega (arith, ltb-true (slice_index_or orders last r).release c.args.week told, same, up))
