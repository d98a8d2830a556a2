-- What the tables of a day say of its weeks, items and open orders.
use Rattle.std.specs.Prelude.{ℕ, ◌≡◌, ◌<◌, ◌==◌, Bool, nat_eq, List, filter, length, map, Option, option_map}
use Rattle.std.specs.List.{find, slice_index_or}
use Rattle.std.specs.Cmp.Lexicographic.{pointwise}
use Rattle.mrp_cal.specs.DateText.{◌>>=◌}
use Rattle.mrp_rows.specs.Name.{name_in}
use Rattle.mrp_bill.specs.Grouped.{listed}
use Rattle.mrp_bill.specs.declared.groups.Numbered.{Numbered}
use Rattle.mrp_tables.specs.Items.{item_at, place_of}
use Rattle.mrp_tables.specs.Tables.{Tables}
use Rattle.mrp_tables.specs.declared.rows.Receipt.{Receipt}
use Rattle.mrp_tables.specs.declared.rows.StockRow.{StockRow}
use Rattle.mrp_facts.specs.declared.facts.ItemFacts.{ItemFacts}

-- the tables of a day, and the date of each of its weeks
pub record Facts : Type 0 where
  pub tables : Tables
  pub dates : List (List ℕ)

-- the pieces on hand in an item's stock records, of which there is one at most
abbrev pub stock_of : List StockRow → ℕ → List ℕ
stock_of rows item = map (λ row. row.on_hand) (filter (λ row. row.item == item) rows)

-- the open receipts of an item, in table order
abbrev pub receipts_of : List Receipt → ℕ → List Receipt
receipts_of rows item = filter (λ row. row.item == item) rows

-- the pieces on hand of an item; 0 without a stock record
abbrev pub on_hand_of : Tables → ℕ → ℕ
on_hand_of t item = slice_index_or (stock_of t.stock item) 0 0

-- the place of the item with a name, from 0
abbrev pub place_named : Tables → List ℕ → Option ℕ
place_named t name = name_in name >>= λ own. place_of own t.items

-- the item at a place, and its stock on hand
abbrev pub facts_at : Tables → ℕ → ItemFacts
facts_at t place = record { item = item_at t.items place; on_hand = on_hand_of t place }

-- the item with a name, and its stock on hand
abbrev pub item_facts : Tables → List ℕ → Option ItemFacts
item_facts t name = option_map (facts_at t) (place_named t name)

-- a receipt is of an order
abbrev pub is_of_order : List ℕ → Receipt → Bool
is_of_order order row = pointwise nat_eq row.order order

-- the open receipt of the item with a name that has this order
abbrev pub open_order : Tables → List ℕ → List ℕ → Option Receipt
open_order t name order = place_named t name >>= λ place. find (is_of_order order) (receipts_of t.receipts place)

-- a stock record's pieces, and an open receipt, each numbered by its item
abbrev pub of_stock : StockRow → Numbered ℕ
of_stock row = record { number = row.item; value = row.on_hand }

abbrev pub of_receipt : Receipt → Numbered Receipt
of_receipt row = record { number = row.item; value = row }

-- rows in the groups of their items
pub record AreByItem (t : Tables) (on_hand : List (List ℕ)) (opened : List (List Receipt)) : Type 0 where
  pub stock_size : length on_hand ≡ length t.items
  pub stock : (i : ℕ) → i < length t.items → listed on_hand i ≡ stock_of t.stock i
  pub receipts_size : length opened ≡ length t.items
  pub receipts : (i : ℕ) → i < length t.items → listed opened i ≡ receipts_of t.receipts i
