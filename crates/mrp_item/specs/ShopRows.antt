-- What holds of a shop's rows, grouped by their items.
use Rattle.std.specs.Prelude.{ℕ, ◌≡◌, ◌<◌, All, length}
use Rattle.mrp_tables.specs.Facts.{IsMasterRow, IsReceipt}
use Rattle.mrp_master.specs.Supply.{supply_of}
use Rattle.mrp_bill.specs.Grouped.{listed}
use Rattle.mrp_item.specs.Dues.{firm_dues, forecast_dues, receipt_dues, service_dues}
use Rattle.mrp_item.specs.declared.shop_rows.ShopRows.TheInside.{Inside}

-- how many items there are
abbrev pub items_of : Inside → ℕ
items_of a = length a.shop.value.tables.items

-- the supply for available to promise, the quantities due of each item, and that rows of the master schedule and open
-- receipts are due in weeks of the horizon
pub record KeepsShopRows (a : Inside) : Type 0 where
  pub supply : a.supply ≡ supply_of a.shop.value.tables
  pub firm_size : length a.firm ≡ items_of a
  pub firm : (i : ℕ) → i < items_of a → listed a.firm i ≡ firm_dues a.shop.value.tables.master i
  pub forecast_size : length a.forecasts ≡ items_of a
  pub forecast : (i : ℕ) → i < items_of a → listed a.forecasts i ≡ forecast_dues a.shop.value.tables.master i
  pub service_size : length a.services ≡ items_of a
  pub service : (i : ℕ) → i < items_of a → listed a.services i ≡ service_dues a.shop.value.tables.master i
  pub receipts_size : length a.receipts ≡ items_of a
  pub receipts : (i : ℕ) → i < items_of a → listed a.receipts i ≡ receipt_dues a.shop.value.tables.receipts i
  pub master_within : All (IsMasterRow a.shop.value.tables.calendar.weeks a.shop.value.tables.items) a.shop.value.tables.master
  pub within : All (IsReceipt a.shop.value.tables.calendar.weeks a.shop.value.tables.items) a.shop.value.tables.receipts
