use Rattle.std.proofs.Common.{◌≡◌, ◌++◌, map, take}
use Rattle.mrp_item.specs.Supplies.{due_supply}
use Rattle.mrp_item.proofs.supplies.add_receipts.Given as goal

abbrev pub invariant-loop-receipt : goal.invariant-loop-receipt
invariant-loop-receipt l = l.supplies.items ≡ l.initial.supplies.items ++ map due_supply (take l.receipt-index l.receipts)
