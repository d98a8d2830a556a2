-- A shop, as contracts see it.
use Rattle.std.specs.Prelude.{ℕ, ◌≡◌, ◌<◌, List, length, All, slice_index}
use Rattle.mrp_tables.specs.Tables.{Tables}
use Rattle.mrp_bill.specs.Bill.{AreCodes}

-- accepted tables, with each item's low-level code
pub record Shop : Type 0 where
  pub tables : Tables
  pub codes : List ℕ

-- what holds of an accepted shop; so no item needs itself
pub record IsShop (s : Shop) : Type 0 where
  pub size : length s.codes ≡ length s.tables.items
  pub codes : AreCodes s.tables.bills (slice_index s.codes)
  pub low : All (λ code. code < length s.tables.items) s.codes
