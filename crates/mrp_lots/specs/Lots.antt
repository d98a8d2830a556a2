-- Lot sizing: the planned receipts up to each week, from the net requirements up to each.
use Rattle.std.specs.Prelude.{ℕ, zero, suc, ◌≡◌, ◌<◌, ◌≤◌, ◌+◌, ◌-◌, max, min, nat_le, if◌then◌else◌}
use Rattle.mrp_qty.specs.Quantity.{multiple_of}
use Rattle.mrp_net.specs.Need.{IsNeed}
use Rattle.mrp_lots.specs.declared.lot.TheConstants.{MOST_LEAST, MOST_PERIOD, MOST_STEP}

-- a lot rule: the receipts up to a week, from the horizon, the net requirements up to each week, the week, and the
-- receipts before it (APICS Dictionary: lot sizing)
abbrev pub Rule : Type 0
Rule = ℕ → (ℕ → ℕ) → ℕ → ℕ → ℕ

-- each week's net requirement is received in that week (Orlicky: lot for lot)
abbrev pub lot_for_lot : Rule
lot_for_lot horizon need week before = need week

-- whole multiples of a size (Orlicky: fixed order quantity; profile for several lots at once)
abbrev pub fixed : ℕ → Rule
fixed size horizon need week before = multiple_of size (need week)

-- the last of n weeks from a week on, or of the horizon
abbrev pub last_of : ℕ → ℕ → ℕ → ℕ
last_of horizon n week = min (week + n - 1) horizon

-- where net requirements are not covered, those of n weeks from there on (Orlicky: fixed period requirements)
abbrev pub period : ℕ → Rule
period n horizon need week before = if nat_le (need week) before then before else need (last_of horizon n week)

-- the order for a quantity that is lacking: raised to a minimum, and then up to a whole multiple of a step (APICS
-- Dictionary: minimum order quantity, order multiple)
abbrev pub order_of : ℕ → ℕ → ℕ → ℕ
order_of least step lacking = multiple_of step (max lacking least)

-- where net requirements are not covered, one order for those of n weeks from there on that are not (Orlicky: fixed
-- period requirements; APICS Dictionary: minimum order quantity, order multiple)
abbrev pub stepped : ℕ → ℕ → ℕ → Rule
stepped n least step horizon need week before =
    if nat_le (need week) before then before else before + order_of least step (need (last_of horizon n week) - before)

-- the limits of a period, a minimum order quantity and an order multiple
pub record IsStepped (weeks least step : ℕ) : Type 0 where
  pub some_weeks : 0 < weeks
  pub most_weeks : weeks ≤ MOST_PERIOD
  pub most_least : least ≤ MOST_LEAST
  pub some_step : 0 < step
  pub most_step : step ≤ MOST_STEP

-- the planned receipts up to a week (APICS Dictionary: planned order receipts)
unfoldable pub receipts : Rule → ℕ → (ℕ → ℕ) → ℕ → ℕ
receipts rule horizon need zero = 0
receipts rule horizon need (suc t) = rule horizon need (suc t) (receipts rule horizon need t)

-- what each lot rule keeps: receipts cover the net requirements, and grow only where these are not covered
pub record IsLotRule (rule : Rule) : Type 0 where
  pub covers : (horizon : ℕ) (need : ℕ → ℕ) → IsNeed horizon need → (t : ℕ) → t < horizon → need (suc t) ≤ receipts rule horizon need (suc t)
  pub idle : (horizon : ℕ) (need : ℕ → ℕ) → IsNeed horizon need → (t : ℕ) → t < horizon
      → need (suc t) ≤ receipts rule horizon need t → receipts rule horizon need (suc t) ≡ receipts rule horizon need t
