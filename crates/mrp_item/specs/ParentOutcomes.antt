-- The outcomes of an item's parents, where they are kept.
use Rattle.std.specs.Prelude.{ℕ, ◌≡◌, ◌≤◌, ◌<◌, List, All, length, slice_index}
use Rattle.mrp_bill.specs.Bill.{parents_of}
use Rattle.mrp_item.specs.Inputs.{Inputs, count}
use Rattle.mrp_item.specs.Made.{item_from, items_from}
use Rattle.mrp_item.specs.Places.{ItemOf}

-- the outcome of each parent of an item is there, of the item's inputs
abbrev pub HasParentsOf : {P : Type 0} → (P → ItemOf → Type 0) → P → Inputs → ℕ → Type 0
HasParentsOf Has parents s i = All (λ p. Has parents (item_from s p)) (parents_of s.tables.bills (count s) i)

-- an outcome is in a list, beside which the items of all its outcomes stand and rise
pub record IsListed (items : List ℕ) (outcomes : List ItemOf) (o : ItemOf) : Type 0 where
  pub rises : (i j : ℕ) → i ≤ j → j < length items → slice_index items i ≤ slice_index items j
  pub there : (k : ℕ) × (k < length items) × (slice_index items k ≡ o.item)
  pub made : outcomes ≡ items_from o.inputs items
