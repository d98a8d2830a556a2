use Rattle.std.proofs.Common.{◌≡◌, ◌∙◌, ◌<◌, ◌≤◌, ◌-◌, ℕ, List, Option, None, length, set, refl, sym, ap, subst, arith}
use Rattle.std.specs.Prelude.{find}
use Rattle.std.specs.BinaryHeap.{heap_capacity, heap_items}
use Rattle.mrp_board.specs.Queue.{KeepsQueue, in_heap, is_due, queue_places}
use Rattle.mrp_board.proofs.Heaps.{top-in}
use Rattle.mrp_board.proofs.Queues.{first-is, first-none, kept-taken, top-within}
use Rattle.mrp_board.proofs.queue.Queue.take_first.Goals as goal

pub returns-in_err-item-clause-first : goal.returns-in_err-item-clause-first
returns-in_err-item-clause-first c =
    let q = c.self.inside in
    let empty : length (heap_items q.due) ≡ 0 = omega (arith, c.in_err-item.ensures.none, q.due.data.ok.0) in
    c.from_residual.ensures
    ∙ sym (first-none q.waits.items (heap_items q.due) (heap_capacity q.due) q.left c.self.invariant empty)
    ∙ ap (λ (w : List (Option ℕ)). find (is_due w) (queue_places w)) c.self.view_is

pub index_mut-requires : goal.index_mut-requires
index_mut-requires c =
    let q = c.self.inside in
    let x = c.in_ok-item.field-0 in
    let some : 0 < length (heap_items q.due) = omega (arith, c.in_ok-item.ensures.variant.0 refl, q.due.data.ok.0) in
    omega (arith, top-within q.waits.items (heap_items q.due) (heap_capacity q.due) q.left c.self.invariant x (top-in x (heap_items q.due) some c.in_ok-item.ensures.top), q.waits.ok.0)

pub overflow_sub-self : goal.overflow_sub-self
overflow_sub-self c =
    let q = c.self.inside in
    let x = c.in_ok-item.field-0 in
    let some : 0 < length (heap_items q.due) = omega (arith, c.in_ok-item.ensures.variant.0 refl, q.due.data.ok.0) in
    let there : 1 ≤ in_heap x.0 (heap_items q.due) = top-in x (heap_items q.due) some c.in_ok-item.ensures.top in
    (kept-taken q.waits.items (heap_items q.due) (heap_capacity q.due) q.left c.self.invariant x (heap_items c.pop.new.self) there c.in_ok-item.ensures.permutation (c.in_ok-item.ensures.heap_order c.self.invariant.ordered).0).0

pub invariant_of-self-2 : goal.invariant_of-self-2
invariant_of-self-2 c =
    let q = c.self.inside in
    let x = c.in_ok-item.field-0 in
    let some : 0 < length (heap_items q.due) = omega (arith, c.in_ok-item.ensures.variant.0 refl, q.due.data.ok.0) in
    let there : 1 ≤ in_heap x.0 (heap_items q.due) = top-in x (heap_items q.due) some c.in_ok-item.ensures.top in
    subst (λ (room : ℕ). KeepsQueue (set q.waits.items x.0 None) (heap_items c.pop.new.self) room (q.left - 1)) (sym c.in_ok-item.ensures.capacity)
    (kept-taken q.waits.items (heap_items q.due) (heap_capacity q.due) q.left c.self.invariant x (heap_items c.pop.new.self) there c.in_ok-item.ensures.permutation (c.in_ok-item.ensures.heap_order c.self.invariant.ordered).0).1

pub returns-clause-first : goal.returns-clause-first
returns-clause-first c =
    let q = c.self.inside in
    let x = c.in_ok-item.field-0 in
    let some : 0 < length (heap_items q.due) = omega (arith, c.in_ok-item.ensures.variant.0 refl, q.due.data.ok.0) in
    sym (first-is q.waits.items (heap_items q.due) (heap_capacity q.due) q.left c.self.invariant x some c.in_ok-item.ensures.top (c.in_ok-item.ensures.heap_order c.self.invariant.ordered).1)
    ∙ ap (λ (w : List (Option ℕ)). find (is_due w) (queue_places w)) c.self.view_is
