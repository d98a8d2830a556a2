use Rattle.std.proofs.Common.{◌≡◌, ℕ, ◌<◌, take, length, get_or, None}
use Rattle.std.specs.Prelude.{All}
use Rattle.mrp_report.specs.section.ReceiptNames.{order_of}
use Rattle.mrp_report.proofs.section.shop_names.receipt_names.Given as goal

abbrev pub invariant-loop-receipt : goal.invariant-loop-receipt
invariant-loop-receipt l =
    All (λ r. r.number < length l.names.items) l.receipts
    × ((number : ℕ) → get_or l.names.items number None ≡ order_of (take l.receipt-index l.receipts) number)
