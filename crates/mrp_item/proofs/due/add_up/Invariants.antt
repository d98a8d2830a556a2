use Rattle.std.proofs.Common.{◌≡◌, ◌*◌, ◌≤◌, ℕ, get_or, take}
use Rattle.mrp_qty.specs.Quantity.{greatest_quantity}
use Rattle.mrp_item.specs.Dues.{due_sum}
use Rattle.mrp_item.proofs.due.add_up.Given as goal

abbrev pub invariant-loop-due : goal.invariant-loop-due
invariant-loop-due l = record {
  summed : (week : ℕ) → get_or l.sums week 0 ≡ due_sum (take l.due-index l.dues) week;
  bounded : (week : ℕ) → get_or l.sums week 0 ≤ l.due-index * greatest_quantity;
}
