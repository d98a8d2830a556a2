-- What contracts see of an order desk that stays open (profile).
use Rattle.std.specs.Prelude.{ℕ, ◌≡◌, ◌≤◌, ◌||◌, Bool, length, nat_le, nat_lt}
use Rattle.mrp_tables.specs.declared.limits.TheConstants.{MOST_ROWS}
use Rattle.mrp_tables.specs.Tables.{Tables}
use Rattle.mrp_master.specs.Supply.{supply_of}
use Rattle.mrp_book.specs.Books.{OrderBook}
use Rattle.mrp_book.specs.Standing.{History}
use Rattle.mrp_calls.specs.declared.texts.TheConstants.{LEAST_ROOM}

-- the tables of its shop, the entries of its order book, one for each record of the journal, and how many bytes more the
-- folder's bundle may have
pub record Desk : Type 0 where
  pub tables : Tables
  pub entries : History
  pub room : ℕ

-- the journal takes no more records
abbrev pub is_full : Desk → Bool
is_full d = nat_le MOST_ROWS (length d.entries) || nat_lt d.room LEAST_ROOM

-- the names in rows are those of the shop, and the order book is the shop's, with no more entries than the journal may have records
pub record IsDesk (tables names : Tables) (book : OrderBook) : Type 0 where
  pub named : names ≡ tables
  pub supply : book.supply ≡ supply_of tables
  pub few : length book.entries ≤ MOST_ROWS
