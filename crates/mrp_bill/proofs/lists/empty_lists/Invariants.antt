use Rattle.std.proofs.Common.{◌≡◌, ℕ, [], length}
use Rattle.mrp_bill.specs.Lists.{listed}
use Rattle.mrp_bill.proofs.lists.empty_lists.Given as goal

abbrev pub invariant-loop : goal.invariant-loop
invariant-loop g l = (length l.lists.items ≡ l.counter) × ((i : ℕ) → listed l.lists.items i ≡ [])
