-- Requirements and supplies up to a week, one week at a time.
use Rattle.std.specs.Prelude.{ℕ, ◌≡◌, ◌≤◌, ◌+◌, ◌-◌, max}
use Rattle.mrp_qty.specs.Quantity.{greatest_quantity}
use Rattle.mrp_net.specs.declared.needs.SoFar.{SoFar}

-- before the first week, the safety stock is required and the stock on hand is supplied
pub record IsStart (safety on_hand : ℕ) (new : SoFar) : Type 0 where
  pub required : new.required ≡ safety
  pub supplied : new.supplied ≡ on_hand
  pub shortage : new.shortage ≡ 0
  pub required_within : new.required ≤ greatest_quantity
  pub supplied_within : new.supplied ≤ greatest_quantity

-- a week's gross requirement and scheduled receipts are added
pub record AddsWeek (old : SoFar) (gross scheduled : ℕ) (new : SoFar) : Type 0 where
  pub required : new.required ≡ old.required + gross
  pub supplied : new.supplied ≡ old.supplied + scheduled
  pub shortage : new.shortage ≡ max old.shortage (new.required - new.supplied)
  pub required_within : new.required ≤ greatest_quantity
  pub supplied_within : new.supplied ≤ greatest_quantity
