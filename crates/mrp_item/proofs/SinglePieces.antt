-- Lots without a minimum order quantity and an order multiple, whose orders are of single pieces.
use Rattle.std.proofs.Common.{◌≡◌, ◌∙◌, ℕ, ◌<◌, ◌≤◌, Result, Ok, Err, sym, ap, arith}
use Rattle.std.specs.Prelude.{IfErr, IsErrOf}
use Rattle.mrp_qty.specs.Quantity.{greatest_quantity}
use Rattle.mrp_phase.specs.declared.fault.PhaseFault.{PhaseFault}
use Rattle.mrp_phase.specs.declared.fault.PhaseFault.TheVariants.{TooLarge}
use Rattle.mrp_phase.specs.Weeks.{row}
use Rattle.mrp_phase.proofs.WeekRows.{row_same}
use Rattle.mrp_net.specs.Need.{IsNeed}
use Rattle.mrp_lots.specs.Lots.{lot_for_lot, period, receipts, stepped}
use Rattle.mrp_lots.specs.LotLaws.{stepped_is_lot_for_lot, stepped_is_period}
use Rattle.mrp_tables.specs.declared.item.Item.{Item}
use Rattle.mrp_tables.specs.declared.item.LotRule.{LotRule}
use Rattle.mrp_tables.specs.declared.item.LotRule.TheVariants.{LotForLot, Period}
use Rattle.mrp_item.specs.Lot.{rule_for, rule_of}

-- lot for lot
pub lot_for_lot-is : (item : Item) (horizon : ℕ) (need : ℕ → ℕ) → item.lot ≡ LotForLot → item.least ≡ 0 → item.step ≡ 1 → IsNeed horizon need
    → (t : ℕ) → t ≤ horizon → receipts lot_for_lot horizon need t ≡ receipts (rule_of item) horizon need t
lot_for_lot-is item horizon need lot least step rises t h =
    sym (
    ap (λ (rule : LotRule). receipts (rule_for rule item.least item.step) horizon need t) lot
    ∙ ap (λ n. receipts (stepped 1 n item.step) horizon need t) least
    ∙ ap (λ n. receipts (stepped 1 0 n) horizon need t) step
    ∙ stepped_is_lot_for_lot horizon need t rises h)

pub lot_for_lot-row : (item : Item) (horizon : ℕ) (need : ℕ → ℕ) → item.lot ≡ LotForLot → item.least ≡ 0 → item.step ≡ 1 → IsNeed horizon need
    → row horizon (receipts lot_for_lot horizon need) ≡ row horizon (receipts (rule_of item) horizon need)
lot_for_lot-row item horizon need lot least step rises =
    row_same (receipts lot_for_lot horizon need) (receipts (rule_of item) horizon need) horizon (λ t a b. lot_for_lot-is item horizon need lot least step rises t b)

-- fixed period requirements
pub period-is : (item : Item) (n horizon : ℕ) (need : ℕ → ℕ) → item.lot ≡ Period n → 0 < n → item.least ≡ 0 → item.step ≡ 1 → IsNeed horizon need
    → (t : ℕ) → t ≤ horizon → receipts (period n) horizon need t ≡ receipts (rule_of item) horizon need t
period-is item n horizon need lot some least step rises t h =
    sym (
    ap (λ (rule : LotRule). receipts (rule_for rule item.least item.step) horizon need t) lot
    ∙ ap (λ m. receipts (stepped n m item.step) horizon need t) least
    ∙ ap (λ m. receipts (stepped n 0 m) horizon need t) step
    ∙ stepped_is_period n horizon need t some rises h)

pub period-row : (item : Item) (n horizon : ℕ) (need : ℕ → ℕ) → item.lot ≡ Period n → 0 < n → item.least ≡ 0 → item.step ≡ 1 → IsNeed horizon need
    → row horizon (receipts (period n) horizon need) ≡ row horizon (receipts (rule_of item) horizon need)
period-row item n horizon need lot some least step rises =
    row_same (receipts (period n) horizon need) (receipts (rule_of item) horizon need) horizon (λ t a b. period-is item n horizon need lot some least step rises t b)

-- where one of two equal numbers is past the greatest quantity, the other is
pub past-same : {X : Type 0} (r : Result X PhaseFault) (a b : ℕ) → a ≡ b → (IsErrOf r TooLarge → greatest_quantity < a) → IfErr r (λ fault. fault ≡ TooLarge → greatest_quantity < b)
past-same (Ok x) a b same h = tt
past-same (Err e) a b same h = λ over. let past : greatest_quantity < a = h (ap Err over) in omega arith
