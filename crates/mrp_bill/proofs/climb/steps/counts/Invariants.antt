use Rattle.std.proofs.Common.{◌≡◌, ◌<◌, ℕ, length, slice_index}
use Rattle.mrp_bill.specs.Grouped.{listed}
use Rattle.mrp_bill.proofs.climb.steps.counts.Given as goal

abbrev pub invariant-loop-item : goal.invariant-loop-item
invariant-loop-item l = record {
  size : length l.counts.items ≡ l.item;
  counts : (i : ℕ) → i < l.item → slice_index l.counts.items i ≡ length (listed l.parents i);
}
