-- Quantities due by rows, numbered by their items.
use Rattle.mrp_tables.specs.declared.rows.MasterRow.{MasterRow}
use Rattle.mrp_tables.specs.declared.rows.Receipt.{Receipt}
use Rattle.mrp_book.specs.declared.booking.Booking.{Booking}
use Rattle.mrp_bill.specs.declared.groups.Numbered.{Numbered}
use Rattle.mrp_item.specs.declared.due.Due.{Due}
use Rattle.mrp_item.specs.Dues.{booking_due, master_due, receipt_due}

-- the quantity due by a row, numbered by its item
abbrev pub of_master : MasterRow → Numbered Due
of_master r = record { number = r.item; value = master_due r }

abbrev pub of_receipt : Receipt → Numbered Due
of_receipt r = record { number = r.item; value = receipt_due r }

abbrev pub of_booking : Booking → Numbered Due
of_booking b = record { number = b.line.item; value = booking_due b }
