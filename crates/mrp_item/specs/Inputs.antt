-- The inputs of a plan.
use Rattle.std.specs.Prelude.{ℕ, List, length, Bool}
use Rattle.std.specs.List.{range_with_len}
use Rattle.mrp_tables.specs.Tables.{Tables}
use Rattle.mrp_tables.specs.Items as items
use Rattle.mrp_tables.specs.declared.item.Item.{Item}
use Rattle.mrp_book.specs.declared.booking.Booking.{Booking}
use Rattle.mrp_book.specs.Snapshot.{Snapshot}

-- the tables, the entry of the order book that is planned from, and the bookings that stand there
pub record Inputs : Type 0 where
  pub tables : Tables
  pub front : ℕ
  pub standing : List Booking

-- how many items there are
abbrev pub count : Inputs → ℕ
count s = length s.tables.items

-- the items, by their places in the table
abbrev pub places : Inputs → List ℕ
places s = range_with_len 0 (count s)

-- the weeks of the horizon
abbrev pub horizon : Inputs → ℕ
horizon s = s.tables.calendar.weeks

abbrev pub item_at : Inputs → ℕ → Item
item_at s i = items.item_at s.tables.items i

-- an item that the master schedule plans (APICS Dictionary: master schedule item)
abbrev pub is_master : Inputs → ℕ → Bool
is_master s i = items.is_master (item_at s i).class

-- the inputs of tables and a snapshot of the order book
abbrev pub inputs_of : Tables → Snapshot → Inputs
inputs_of tables snapshot = record { tables = tables; front = snapshot.front; standing = snapshot.standing }
