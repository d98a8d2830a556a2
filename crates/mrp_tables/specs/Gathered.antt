-- The rows of a table so far, with the items that they name.
use Rattle.std.specs.Prelude.{ℕ, List, []}
use Rattle.mrp_cal.specs.Calendar.{ShopCalendar}
use Rattle.mrp_tables.specs.declared.item.Item.{Item}
use Rattle.mrp_tables.specs.declared.rows.Centre.{Centre}
use Rattle.mrp_tables.specs.declared.rows.MasterRow.{MasterRow}
use Rattle.mrp_tables.specs.declared.version.Version.{Version}
use Rattle.mrp_tables.specs.declared.version.Version.TheVariants.{One}

pub record Gathered (X : Type 0) : Type 0 where
  pub items : List Item
  pub rows : List X

-- items so far, of a version
pub record GatheredItems : Type 0 where
  pub version : Version
  pub rows : List Item

-- rows with dates so far, beside the calendar and the items
pub record GatheredByDate (X : Type 0) : Type 0 where
  pub calendar : ShopCalendar
  pub items : List Item
  pub rows : List X

-- rows of the master schedule so far, beside the version, the calendar and the items
pub record GatheredMaster : Type 0 where
  pub version : Version
  pub calendar : ShopCalendar
  pub items : List Item
  pub rows : List MasterRow

-- operations so far, with the items and the centres
pub record GatheredByCentre (X : Type 0) : Type 0 where
  pub items : List Item
  pub centres : List Centre
  pub rows : List X

-- what a table's records refer to: the items, the centres, the weeks of the horizon, and the version; what they do not
-- refer to is empty, 0, or version 1
pub record Beside : Type 0 where
  pub items : List Item
  pub centres : List Centre
  pub weeks : ℕ
  pub version : Version

abbrev pub nothing : Beside
nothing = record { items = []; centres = []; weeks = 0; version = One }

-- the items alone
abbrev pub beside_items : List Item → Beside
beside_items items = record { items = items; centres = []; weeks = 0; version = One }

-- the items and the centres
abbrev pub beside_centres : List Item → List Centre → Beside
beside_centres items centres = record { items = items; centres = centres; weeks = 0; version = One }

-- the items, and the weeks of dates
abbrev pub beside_dates : ShopCalendar → List Item → Beside
beside_dates calendar items = record { items = items; centres = []; weeks = calendar.weeks; version = One }
