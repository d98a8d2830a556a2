use Rattle.std.proofs.Common.{◌≡◌, ◌<◌, ◌≤◌, ℕ, length, slice_index}
use Rattle.mrp_bill.specs.Links.{IsCoded}
use Rattle.mrp_bill.specs.Grouped.{IsListed}
use Rattle.mrp_bill.proofs.codes.codes_of.Given as goal

abbrev pub invariant-loop-item : goal.invariant-loop-item
invariant-loop-item l = record {
  size : length l.codes.items ≡ length l.parents;
  coded : (j : ℕ) → j < l.item-index → IsCoded (IsListed l.parents) (slice_index l.codes.items) (slice_index l.order j);
  low : (j : ℕ) → j < l.item-index → slice_index l.codes.items (slice_index l.order j) ≤ j;
}
