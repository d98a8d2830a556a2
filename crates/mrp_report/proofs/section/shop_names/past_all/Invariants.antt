use Rattle.std.proofs.Common.{ℕ, ◌<◌, get_or}
use Rattle.mrp_tables.specs.declared.rows.Receipt.{Receipt}
use Rattle.mrp_report.proofs.section.shop_names.past_all.Given as goal

abbrev pub invariant-loop-receipt : goal.invariant-loop-receipt
invariant-loop-receipt l = (k : ℕ) (d : Receipt) → k < l.receipt-index → (get_or l.receipts k d).number < l.past
