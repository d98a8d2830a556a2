use Rattle.std.proofs.Common.{◌≡◌, ◌∙◌, ◌+◌, ◌++◌, ◌∷◌, [], ℕ, true, false, List, Option, Some, length, map, sym, ap, subst, arith}
use Rattle.std.proofs.lemmas.List.FromFn.{length-map-range_with_len, map-range_with_len_more}
use Rattle.std.specs.BinaryHeap.{IsHeap, heap_capacity, heap_items}
use Rattle.std.specs.declared.alloc.Global.{Global}
use Rattle.std.specs.declared.cmp.Reverse.{Reverse}
use Rattle.std.specs.declared.collections.BinaryHeap.{BinaryHeap}
use Rattle.std.specs.List.{range_with_len}
use Rattle.std.specs.Ordering.{nat_cmp}
use Rattle.mrp_bill.specs.Bill.{parents_of}
use Rattle.mrp_board.specs.Queue.{waits_for_none}
use Rattle.mrp_board.proofs.Queues.{HasDue, due-pushed, due-waiting, kept-filled}
use Rattle.mrp_board.proofs.Tests.{other-number, same-number}
use Rattle.mrp_board.proofs.queue.Queue.open.Goals as goal
use Rattle.mrp_board.proofs.queue.Queue.open.Goals.{then-parents-eq0+in_ok-push-2, else-parents-eq0}

-- one more item is in the list
filled-more : (f : ℕ → ℕ) (n p : ℕ) (old new : List (Option ℕ)) → new ≡ old ++ Some p ∷ [] → old ≡ map (λ i. Some (f i)) (range_with_len 0 n) → p ≡ f n → new ≡ map (λ i. Some (f i)) (range_with_len 0 (n + 1))
filled-more f n p old new pushed filled is =
    pushed ∙ ap (λ (l : List (Option ℕ)). l ++ Some p ∷ []) filled
    ∙ ap (λ (m : ℕ). map (λ i. Some (f i)) (range_with_len 0 n) ++ Some m ∷ []) is
    ∙ sym (map-range_with_len_more (λ i. Some (f i)) 0 n n (omega arith))

filled-length : (f : ℕ → ℕ) (n : ℕ) (waits : List (Option ℕ)) → waits ≡ map (λ i. Some (f i)) (range_with_len 0 n) → length waits ≡ n
filled-length f n waits filled = ap (length {A = Option ℕ}) filled ∙ length-map-range_with_len (λ i. Some (f i)) 0 n

pub loop-item-preserved : goal.loop-item-preserved
loop-item-preserved c =
    let tables = c.args.shop.now.tables in
    let f = λ (i : ℕ). length (parents_of tables.bills (length tables.items) i) in
    let n = c.loop-item.item in
    let p = length c.parents-parents.result.now in
    let waits = c.loop-item.waits.items in
    let due = heap_items c.loop-item.due in
    let size : length waits ≡ n = filled-length f n waits c.loop-item.invariant.filled in
    let filled = filled-more f n p waits c.push.new.self.items c.in_ok-push.ensures.items c.loop-item.invariant.filled (ap (length {A = ℕ}) c.parents-parents.ensures) in
    elim c.if-parents-eq0.branch [
      | then-parents-eq0+in_ok-push-2 w ↦
          let new = w.push-then-parents-eq0.new.self in
          let x : Reverse ℕ = record { 0 = n } in
          let here : waits_for_none (Some p) ≡ true = same-number p 0 w.if-parents-eq0.true in
          record {
            filled = filled;
            ordered = subst (λ (q : BinaryHeap (Reverse ℕ) Global). IsHeap (λ x y. nat_cmp y.0 x.0) (heap_items q)) (sym w.due-is) (w.in_ok-push-2.ensures.heap_order c.loop-item.invariant.ordered);
            has = subst (λ (q : BinaryHeap (Reverse ℕ) Global). HasDue c.push.new.self.items (heap_items q)) (sym w.due-is)
                (subst (λ (l : List (Option ℕ)). HasDue l (heap_items new)) (sym c.in_ok-push.ensures.items)
                (due-pushed waits due c.loop-item.invariant.has (Some p) x (heap_items new) here (sym size) w.in_ok-push-2.ensures.permutation));
            room = omega (arith, c.loop-item.invariant.room, w.in_ok-push-2.ensures.capacity, ap (λ (q : BinaryHeap (Reverse ℕ) Global). heap_capacity q) w.due-is);
          }
      | else-parents-eq0 w ↦
          let here : waits_for_none (Some p) ≡ false = other-number p 0 (λ e. absurd (omega (arith, e, w.if-parents-eq0.false))) in
          record {
            filled = filled;
            ordered = subst (λ (q : BinaryHeap (Reverse ℕ) Global). IsHeap (λ x y. nat_cmp y.0 x.0) (heap_items q)) (sym w.due-is) c.loop-item.invariant.ordered;
            has = subst (λ (q : BinaryHeap (Reverse ℕ) Global). HasDue c.push.new.self.items (heap_items q)) (sym w.due-is)
                (subst (λ (l : List (Option ℕ)). HasDue l due) (sym c.in_ok-push.ensures.items) (due-waiting waits due c.loop-item.invariant.has (Some p) here));
            room = omega (arith, c.loop-item.invariant.room, ap (λ (q : BinaryHeap (Reverse ℕ) Global). heap_capacity q) w.due-is);
          }
    ]

pub invariant_of-result : goal.invariant_of-result
invariant_of-result c =
    let tables = c.args.shop.now.tables in
    let f = λ (i : ℕ). length (parents_of tables.bills (length tables.items) i) in
    let n = length c.items-count.result.now in
    let waits = c.loop-item.waits.items in
    let size : length waits ≡ c.loop-item.item = filled-length f c.loop-item.item waits c.loop-item.invariant.filled in
    let all : c.loop-item.item ≡ n = omega (arith, c.loop-item-test.false, c.loop-item.auto.item-end) in
    kept-filled f n (heap_capacity c.loop-item.due) waits (heap_items c.loop-item.due)
    (c.loop-item.invariant.filled ∙ ap (λ (m : ℕ). map (λ i. Some (f i)) (range_with_len 0 m)) all)
    (omega (arith, size, all, c.loop-item.invariant.room)) c.loop-item.invariant.ordered c.loop-item.invariant.has
