-- An item's planned receipts, from its net requirements.
use Rattle.std.proofs.Common.{◌≡◌, ◌∙◌, ℕ, ◌<◌, ◌≤◌, List, length, Bool, true, false, cond, refl, sym, ap, arith}
use Rattle.std.specs.Prelude.{nat_le, Some, None}
use Rattle.std.proofs.lemmas.Bool.{leb-true}
use Rattle.mrp_qty.specs.Quantity.{greatest_quantity, quantity_of}
use Rattle.mrp_phase.specs.Weeks.{row, in_week}
use Rattle.mrp_phase.proofs.WeekRows.{length-row, in_week_row}
use Rattle.mrp_net.specs.declared.stock.Stock.{Stock}
use Rattle.mrp_net.specs.Need.{need}
use Rattle.mrp_lots.specs.Lots.{receipts}
use Rattle.mrp_tables.specs.declared.item.Item.{Item}
use Rattle.mrp_item.specs.Inputs.{Inputs, horizon, item_at}
use Rattle.mrp_item.specs.Rows.{stock_of}
use Rattle.mrp_item.specs.Lot.{rule_of}
use Rattle.mrp_item.specs.Plan.{needs_of, receipts_of}

-- the net requirements, as the item's
pub needs_are : (s : Inputs) (i : ℕ) (gross needs : List ℕ) (stock : Stock) → length gross ≡ horizon s → stock ≡ stock_of s i → needs ≡ row (length gross) (need stock gross) → needs ≡ needs_of s i gross
needs_are s i gross needs stock size is are = are ∙ ap (λ n. row n (need stock gross)) size ∙ ap (λ (x : Stock). row (horizon s) (need x gross)) is

pub length-needs : (s : Inputs) (i : ℕ) (gross needs : List ℕ) → needs ≡ needs_of s i gross → length needs ≡ horizon s
length-needs s i gross needs are = ap length are ∙ length-row (need (stock_of s i) gross) (horizon s)

-- the receipts up to a week, as the item's
receipt_is : (s : Inputs) (i : ℕ) (gross needs : List ℕ) (item : Item) (t : ℕ) → needs ≡ needs_of s i gross → item ≡ item_at s i
    → receipts (rule_of item) (length needs) (in_week needs) t ≡ receipts (rule_of (item_at s i)) (horizon s) (in_week (needs_of s i gross)) t
receipt_is s i gross needs item t are is =
    ap (λ (x : Item). receipts (rule_of x) (length needs) (in_week needs) t) is
    ∙ ap (λ n. receipts (rule_of (item_at s i)) n (in_week needs) t) (length-needs s i gross needs are)
    ∙ ap (λ (xs : List ℕ). receipts (rule_of (item_at s i)) (horizon s) (in_week xs) t) are

pub receipts_are : (s : Inputs) (i : ℕ) (gross needs received : List ℕ) (item : Item) → needs ≡ needs_of s i gross → item ≡ item_at s i
    → received ≡ row (length needs) (receipts (rule_of item) (length needs) (in_week needs)) → received ≡ receipts_of s i gross
receipts_are s i gross needs received item are is row_is =
    row_is
    ∙ ap (λ n. row n (receipts (rule_of item) (length needs) (in_week needs))) (length-needs s i gross needs are)
    ∙ ap (row (horizon s)) (λ j t. receipt_is s i gross needs item t are is j)

-- the last week's receipts
pub last_is : (s : Inputs) (i : ℕ) (gross needs : List ℕ) (item : Item) → 0 < horizon s → needs ≡ needs_of s i gross → item ≡ item_at s i
    → receipts (rule_of item) (length needs) (in_week needs) (length needs) ≡ in_week (receipts_of s i gross) (horizon s)
last_is s i gross needs item some are is =
    ap (receipts (rule_of item) (length needs) (in_week needs)) (length-needs s i gross needs are)
    ∙ receipt_is s i gross needs item (horizon s) are is
    ∙ sym (in_week_row (receipts (rule_of (item_at s i)) (horizon s) (in_week (needs_of s i gross))) (horizon s) (horizon s) some (omega arith))

-- a quantity is within the greatest
pub quantity_of-within : (q n : ℕ) → Some q ≡ quantity_of n → n ≤ greatest_quantity
quantity_of-within q n h = by (nat_le n greatest_quantity) refl h
  where
    by : (b : Bool) → nat_le n greatest_quantity ≡ b → Some q ≡ cond b (Some n) None → n ≤ greatest_quantity
    by true e k = leb-true n greatest_quantity e
    by false e k = absurd (cc)
