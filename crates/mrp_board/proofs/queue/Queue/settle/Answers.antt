use Rattle.std.proofs.Common.{◌≡◌, ◌∙◌, ◌<◌, ◌-◌, ℕ, suc, true, false, List, Option, Some, Result, Ok, Err, length, set, refl, sym, ap, subst, arith}
use Rattle.std.specs.Prelude.{IsOk, OnOk, is_err}
use Rattle.std.specs.BinaryHeap.{heap_capacity, heap_items}
use Rattle.mrp_board.specs.Queue.{KeepsQueue, waits_for}
use Rattle.mrp_board.proofs.Queues.{has-room, kept-pushed, kept-roomier}
use Rattle.mrp_board.proofs.Tests.{no}
use Rattle.mrp_board.proofs.queue.Queue.settle.Goals as goal

not-err : {A E : Type 0} (r : Result A E) → is_err r ≡ true → IsOk r → ⊥
not-err (Ok a) err ok = no err
not-err (Err e) err ok = no ok

on-ok : {A E : Type 0} (r : Result A E) {P : Type 0} → is_err r ≡ false → OnOk r P → P
on-ok (Ok a) ok p = p
on-ok (Err e) ok p = absurd (let n : true ≡ false = ok in cc)

pub unreachable-requires-then-is_err : goal.unreachable-requires-then-is_err
unreachable-requires-then-is_err c =
    let q = c.self.inside in
    let is : waits_for q.waits.items c.args.item ≡ Some (suc c.requires.0) = ap (λ (w : List (Option ℕ)). waits_for w c.args.item) c.self.view_is ∙ c.requires.1 in
    let roomy : length (heap_items q.due) < heap_capacity q.due = has-room q.waits.items (heap_items q.due) (heap_capacity q.due) q.left c.self.invariant c.args.item c.requires.0 is in
    not-err c.push.result (sym c.if-is_err.ensures.value) (c.push.ensures.succeeds (omega (arith, roomy, q.due.data.ok.0)))

pub invariant_of-self : goal.invariant_of-self
invariant_of-self c =
    let q = c.self.inside in
    let is : waits_for q.waits.items c.args.item ≡ Some (suc c.requires.0) = ap (λ (w : List (Option ℕ)). waits_for w c.args.item) c.self.view_is ∙ c.requires.1 in
    let ok : is_err c.push.result ≡ false = sym c.if-is_err.ensures.value in
    let new = heap_items c.push.new.self in
    let one : c.in-Some.parents - 1 ≡ 0 = omega (arith, c.if-parents-eq1.true) in
    subst (λ (n : ℕ). KeepsQueue (set q.waits.items c.args.item (Some n)) new (heap_capacity c.push.new.self) q.left) (sym one)
    (kept-roomier (set q.waits.items c.args.item (Some 0)) new (heap_capacity q.due) q.left
    (kept-pushed q.waits.items (heap_items q.due) (heap_capacity q.due) q.left c.self.invariant c.args.item c.requires.0 is (record { 0 = c.args.item }) new refl
    (on-ok c.push.result ok c.push.ensures.permutation) (on-ok c.push.result ok c.push.ensures.heap_order c.self.invariant.ordered))
    (heap_capacity c.push.new.self) c.push.ensures.capacity)
