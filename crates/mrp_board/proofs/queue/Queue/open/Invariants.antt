use Rattle.std.proofs.Common.{◌≡◌, ◌≤◌, Some, length, map}
use Rattle.std.specs.BinaryHeap.{IsHeap, heap_capacity, heap_items}
use Rattle.std.specs.List.{range_with_len}
use Rattle.std.specs.Ordering.{nat_cmp}
use Rattle.mrp_bill.specs.Bill.{parents_of}
use Rattle.mrp_board.proofs.Queues.{HasDue}
use Rattle.mrp_board.proofs.queue.Queue.open.Given as goal

abbrev pub invariant-loop-item : goal.invariant-loop-item
invariant-loop-item l = record {
  filled : l.waits.items ≡ map (λ i. Some (length (parents_of l.shop.tables.bills (length l.shop.tables.items) i))) (range_with_len 0 l.item);
  ordered : IsHeap (λ x y. nat_cmp y.0 x.0) (heap_items l.due);
  has : HasDue l.waits.items (heap_items l.due);
  room : l.count ≤ heap_capacity l.due;
}
