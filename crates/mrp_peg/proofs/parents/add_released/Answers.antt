use Rattle.std.proofs.Common.{◌≡◌, ◌∙◌, ◌≢◌, ◌++◌, ◌∷◌, [], ◌<◌, ◌≤◌, ℕ, length, sym, ap, arith}
use Rattle.std.specs.List.{slice_index_or}
use Rattle.std.proofs.lemmas.List.{get_or_default}
use Rattle.std.proofs.lemmas.Bool.{ltb-false, ltb-true}
use Rattle.mrp_item.specs.declared.order.Order.{Order}
use Rattle.mrp_peg.proofs.Released.{required_before, required_first, required_more, none_behind}
use Rattle.mrp_peg.proofs.parents.add_released.Goals as goal

pub loop-place-init : goal.loop-place-init
loop-place-init c =
    let orders = c.args.by.now.orders.now in
    let from = c.first_released-place.result in
    let other : (j : ℕ) (d : Order) → j < from → j < length orders → (slice_index_or orders j d).release ≢ c.args.week = λ j d below h. λ same. omega (arith, same, ltb-true (slice_index_or orders j d).release c.args.week (c.first_released-place.ensures.begins.0 j d (omega arith) below)) in
    record {
      needs = required_first c.args.item c.args.by.now.line c.args.by.now.per c.args.week from orders c.args.needs.now.items other;
      begun = omega arith;
      within = c.first_released-place.ensures.within;
    }

pub loop-place-preserved : goal.loop-place-preserved
loop-place-preserved c =
    let orders = c.args.by.now.orders.now in
    let k = c.loop-place.place in
    record {
      needs = required_more c.args.item c.args.by.now.line c.args.by.now.per c.args.week k orders c.index-orders-place-in-loop-place.result c.args.needs.now.items c.loop-place.needs.items c.push.new.self.items c.loop-place-test.true
          c.index-orders-place-in-loop-place.is (ap (λ (o : Order). o.release) (c.index-orders-place-in-loop-place.is ∙ get_or_default orders k c.index-orders-place-in-loop-place.result c.index-orders-place.result c.loop-place-test.true) ∙ c.if-orders-place.true) c.loop-place.invariant.needs (c.in_ok-push.ensures.items ∙ ap (λ w. c.loop-place.needs.items ++ w ∷ []) c.requirement_of.ensures);
      begun = omega (arith, c.loop-place.invariant.begun);
      within = omega (arith, c.loop-place-test.true);
    }

pub returns-else-orders-place : goal.returns-else-orders-place
returns-else-orders-place c =
    let orders = c.args.by.now.orders.now in
    let k = c.loop-place.place in
    let o = c.index-orders-place.result in
    let at : o ≡ slice_index_or orders k o = c.index-orders-place.is in
    let low : c.args.week ≤ o.release = omega (arith, ap (λ (x : Order). x.release) at, ltb-false (slice_index_or orders k o).release c.args.week (c.first_released-place.ensures.begins.1 k o c.loop-place.invariant.begun c.loop-place-test.true)) in
    c.loop-place.invariant.needs
    ∙ ap (λ l. c.args.needs.now.items ++ l)
    (sym (required_before c.args.item c.args.by.now.line c.args.by.now.per c.args.week 1 k orders (none_behind c.args.week k orders o c.requires.rising c.loop-place-test.true at low (λ e. c.if-orders-place.false (sym (ap (λ (x : Order). x.release) at) ∙ e)))))
