-- The pegs that each order supplies, as lists from the last one to the first.
use Rattle.std.specs.Prelude.{ℕ, ◌≡◌, ◌≢◌, ◌<◌, List, Option, Some, None, length, slice_index_or, slice_set}
use Rattle.mrp_risk.specs.declared.peg.Peg.{Peg}
use Rattle.mrp_risk.specs.declared.lists.PegLists.{PegLists}
use Rattle.mrp_risk.specs.Chains.{peg_at}

-- the place that a list has for an order, or for a peg
abbrev pub last_at : List (Option ℕ) → ℕ → Option ℕ
last_at last order = slice_index_or last order None

-- the place for the order that supplies a peg
abbrev pub last_of : List (Option ℕ) → Option ℕ → Option ℕ
last_of last None = None
last_of last (Some order) = last_at last order

-- the places after one more peg
abbrev pub last_after : List (Option ℕ) → Option ℕ → ℕ → List (Option ℕ)
last_after last None place = last
last_after last (Some order) place = slice_set last order (Some place)

-- a place is that of the last peg of an order among the first pegs, or there is none
abbrev pub IsLastSupplied : List Peg → ℕ → ℕ → Option ℕ → Type 0
IsLastSupplied pegs order end None = (k : ℕ) → k < end → (peg_at pegs k).supply ≢ Some order
IsLastSupplied pegs order end (Some place) = (place < end) × ((peg_at pegs place).supply ≡ Some order) × ((k : ℕ) → place < k → k < end → (peg_at pegs k).supply ≢ Some order)

-- the lists of the first pegs
pub record AreListsTo (orders : ℕ) (pegs : List Peg) (end : ℕ) (last previous : List (Option ℕ)) : Type 0 where
  pub last_size : length last ≡ orders
  pub previous_size : length previous ≡ end
  pub of_orders : (order : ℕ) → order < orders → IsLastSupplied pegs order end (last_at last order)
  pub of_pegs : (k order : ℕ) → k < end → (peg_at pegs k).supply ≡ Some order → IsLastSupplied pegs order k (last_at previous k)

-- the lists of all pegs
abbrev pub AreLists : ℕ → List Peg → PegLists → Type 0
AreLists orders pegs lists = AreListsTo orders pegs (length pegs) lists.last.items lists.previous.items
