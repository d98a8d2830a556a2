-- The limits of an item's master data that planning depends on.
use Rattle.std.specs.Prelude.{ℕ, ◌≡◌, ◌<◌, ◌≤◌}
use Rattle.mrp_lots.specs.declared.lot.TheConstants.{MOST_LEAST, MOST_PERIOD, MOST_STEP}
use Rattle.mrp_tables.specs.declared.limits.TheConstants.{MOST_LEAD, MOST_SCRAP}
use Rattle.mrp_tables.specs.declared.item.LotRule.{LotRule}
use Rattle.mrp_tables.specs.declared.item.LotRule.TheVariants.{LotForLot, Fixed, Period}
use Rattle.mrp_tables.specs.declared.item.Item.{Item}

abbrev pub HasSize : LotRule → ℕ → Type 0
HasSize LotForLot step = 0 < step
HasSize (Fixed size) step = 0 < size
HasSize (Period n) step = (0 < n) × (0 < step)

-- the size of an item's lots is at least 1, and so is the multiple of its orders
abbrev pub IsSized : Item → Type 0
IsSized item = HasSize item.lot item.step

-- scrap, lead time, lot size, minimum order quantity and order multiple
pub record IsPlannable (item : Item) : Type 0 where
  pub scrap : item.scrap ≤ MOST_SCRAP
  pub lead : item.lead ≤ MOST_LEAD
  pub sized : IsSized item
  pub period : (n : ℕ) → item.lot ≡ Period n → n ≤ MOST_PERIOD
  pub least : item.least ≤ MOST_LEAST
  pub step : item.step ≤ MOST_STEP
