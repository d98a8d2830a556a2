-- The tables' lot rules are lot rules.
use Rattle.std.proofs.Common.{◌≡◌, ℕ, subst, arith}
use Rattle.mrp_tables.specs.declared.item.Item.{Item}
use Rattle.mrp_tables.specs.declared.item.LotRule.{LotRule}
use Rattle.mrp_tables.specs.declared.item.LotRule.TheVariants.{LotForLot, Fixed, Period}
use Rattle.mrp_lots.specs.Lots.{IsLotRule, IsStepped}
use Rattle.mrp_lots.specs.LotLaws.{fixed_rule, stepped_rule}
use Rattle.mrp_item.specs.Lot.{rule_for, rule_of}
use Rattle.mrp_item.specs.Limits.{HasSize, IsPlannable, IsSized}

rule_for-kept : (lot : LotRule) (least step : ℕ) → HasSize lot step → IsLotRule (rule_for lot least step)
rule_for-kept LotForLot least step h = stepped_rule 1 least step (omega arith) h
rule_for-kept (Fixed size) least step h = fixed_rule size h
rule_for-kept (Period n) least step h = stepped_rule n least step h.0 h.1

pub rule_of-kept : (item : Item) → IsSized item → IsLotRule (rule_of item)
rule_of-kept item h = rule_for-kept item.lot item.least item.step h

-- the limits of lot for lot, as lots for one week
pub lot_for_lot-stepped : (item : Item) → item.lot ≡ LotForLot → IsPlannable item → IsStepped 1 item.least item.step
lot_for_lot-stepped item is kept = record {
  some_weeks = omega arith;
  most_weeks = omega arith;
  most_least = kept.least;
  some_step = subst (λ (lot : LotRule). HasSize lot item.step) is kept.sized;
  most_step = kept.step;
}

-- the limits of lots for a number of weeks
pub period-stepped : (item : Item) (n : ℕ) → item.lot ≡ Period n → IsPlannable item → IsStepped n item.least item.step
period-stepped item n is kept =
    let sized = subst (λ (lot : LotRule). HasSize lot item.step) is kept.sized in
    record {
      some_weeks = sized.0;
      most_weeks = kept.period n is;
      most_least = kept.least;
      some_step = sized.1;
      most_step = kept.step;
    }
