-- Open orders, by their receipts in the tables.
use Rattle.std.specs.Prelude.{ℕ, List, [], ◌∷◌, Option, Some, None, codes, decimal, if◌then◌else◌}
use Rattle.mrp_day.specs.declared.section.Section.TheVariants as s
use Rattle.mrp_tables.specs.declared.rows.Receipt.{Receipt}
use Rattle.mrp_facts.specs.Facts.{Facts, open_order}
use Rattle.mrp_page.specs.layout.Todo.{open_receipt}
use Rattle.mrp_page.specs.Row.{Cells, RowView, cell_at}
use Rattle.mrp_page.specs.Template.{dated_html, has_word}

-- the receipt of the open order that a message is about, if the tables are given and have it
abbrev pub receipt_of : Option Facts → RowView → Option Receipt
receipt_of None message = None
receipt_of (Some facts) message = if has_word 1 (codes "open") message then open_order facts.tables (cell_at message 0) (cell_at message 2) else None

-- the texts of the pieces and the week of a receipt
abbrev pub receipt_cells : Receipt → Cells
receipt_cells receipt = decimal receipt.quantity ∷ decimal receipt.week ∷ []

abbrev pub receipt_row : Receipt → RowView
receipt_row receipt = record { section = s.Run; cells = receipt_cells receipt }

-- the cells of an open order, by its receipt
abbrev pub receipt_html : Option Facts → Receipt → List ℕ
receipt_html tables receipt = dated_html tables open_receipt (receipt_row receipt)
