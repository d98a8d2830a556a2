use Rattle.std.proofs.Common.{◌≡◌, drop}
use Rattle.std.specs.List.{find}
use Rattle.mrp_facts.specs.Facts.{is_of_order}
use Rattle.mrp_facts.proofs.facts.receipt_of.Given as goal

abbrev pub invariant-loop-receipt : goal.invariant-loop-receipt
invariant-loop-receipt l = find (is_of_order l.order) l.receipts ≡ find (is_of_order l.order) (drop l.receipt-index l.receipts)
