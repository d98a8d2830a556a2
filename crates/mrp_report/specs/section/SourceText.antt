-- The cells that identify the supply of a row (profile).
use Rattle.std.specs.Prelude.{ℕ, ◌-◌, List, [], codes, decimal, Option, Some, None, slice_get}
use Rattle.mrp_tables.specs.Tables.{Tables}
use Rattle.mrp_item.specs.declared.order.Order.{Order}
use Rattle.mrp_item.specs.declared.supplies.Supplied.{Supplied}
use Rattle.mrp_item.specs.declared.supplies.Supplied.TheVariants as supplied
use Rattle.mrp_report.specs.section.OrderText.{kind_word}
use Rattle.mrp_report.specs.section.ReceiptNames.{receipt_name}

abbrev pub word_of : Option Order → List ℕ
word_of None = []
word_of (Some o) = kind_word o.kind

-- the word for a supply of an item with these orders; orders are numbered from 1
abbrev pub source_word : List Order → Supplied → List ℕ
source_word orders supplied.Stock = codes "stock"
source_word orders (supplied.Receipt number) = codes "open"
source_word orders (supplied.Order number) = word_of (slice_get orders (number - 1))

-- which supply it is: the name of a receipt's order, by the receipt's record number, or an order's number
abbrev pub source_name : Tables → Supplied → List ℕ
source_name t supplied.Stock = []
source_name t (supplied.Receipt number) = receipt_name t number
source_name t (supplied.Order number) = decimal number
