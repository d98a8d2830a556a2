-- An item's own rows, and whether they are too large.
use Rattle.std.specs.Prelude.{ℕ, ◌≡◌, ◌≤◌, ◌<◌, ◌+◌, ◌⊎◌, true, List, sum}
use Rattle.std.specs.List.{list_all}
use Rattle.mrp_bill.specs.Bill.{parents_of}
use Rattle.mrp_qty.specs.Quantity.{greatest_quantity}
use Rattle.mrp_phase.specs.Weeks.{row, in_week}
use Rattle.mrp_item.specs.Inputs.{Inputs, count, horizon}
use Rattle.mrp_item.specs.Rows.{stock_of}
use Rattle.mrp_item.specs.Plan.{gross_in, is_planned, outcome_of, receipts_of}

-- the gross requirements of an item, from its parents' outcomes
abbrev pub own_gross : Inputs → ℕ → List ℕ
own_gross s i = row (horizon s) (gross_in s i (outcome_of s))

-- requirements and supplies are within the greatest quantity
pub record AreWithin (s : Inputs) (i : ℕ) (gross : List ℕ) : Type 0 where
  pub requirements : sum gross + (stock_of s i).safety ≤ greatest_quantity
  pub supplies : (stock_of s i).on_hand + sum (stock_of s i).scheduled + in_week (receipts_of s i gross) (horizon s) ≤ greatest_quantity

-- requirements or supplies pass the greatest quantity
abbrev pub ArePast : Inputs → ℕ → List ℕ → Type 0
ArePast s i gross =
    (greatest_quantity < sum gross + (stock_of s i).safety)
    ⊎ (greatest_quantity < (stock_of s i).on_hand + sum (stock_of s i).scheduled + in_week (receipts_of s i gross) (horizon s))

-- every parent of an item is planned
abbrev pub IsReady : Inputs → ℕ → Type 0
IsReady s i = list_all (λ p. is_planned (outcome_of s p)) (parents_of s.tables.bills (count s) i) ≡ true
