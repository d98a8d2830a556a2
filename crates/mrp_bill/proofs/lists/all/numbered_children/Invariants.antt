use Rattle.std.proofs.Common.{◌≡◌, ◌≤◌, ◌<◌, ℕ, length, filter}
use Rattle.std.specs.List.{range_with_len}
use Rattle.std.specs.Prelude.{All}
use Rattle.mrp_bill.specs.Bill.{is_parent}
use Rattle.mrp_bill.specs.Grouped.{values_of}
use Rattle.mrp_bill.proofs.lists.all.numbered_children.Given as goal

abbrev pub invariant-loop-item : goal.invariant-loop-item
invariant-loop-item l = record {
  size : length l.marks.items ≡ length l.by_component;
  unmarked : All (λ mark. mark ≤ l.item) l.marks.items;
  within : All (λ r. r.number < length l.by_component) l.rows.items;
  rows : (p : ℕ) → values_of l.rows.items p ≡ filter (λ i. is_parent l.lines p i) (range_with_len 0 l.item);
}
