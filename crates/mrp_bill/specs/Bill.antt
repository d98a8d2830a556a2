-- The bill of material: chains of its lines, loops, low-level codes (Orlicky: product structure, low-level code).
use Rattle.std.specs.Prelude.{ℕ, ◌≡◌, ◌<◌, ◌≤◌, ◌==◌, ◌&&◌, ◌⊎◌, Bool, IsTrue, List, length, filter, All, slice_index, slice_index_or}
use Rattle.std.specs.List.{range_with_len, list_any}
use Rattle.mrp_tables.specs.declared.rows.BillLine.{BillLine}
use Rattle.mrp_bill.specs.Links.{Links, Leads, IsTrail, IsFirstRound, IsRound, AreRising}

-- each line's parent and component are among the first items
abbrev pub AreWithin : ℕ → List BillLine → Type 0
AreWithin count lines = All (λ line. (line.parent < count) × (line.component < count)) lines

-- whether some line has p as parent and i as component
abbrev pub is_parent : List BillLine → ℕ → ℕ → Bool
is_parent lines p i = list_any (λ line. (line.parent == p) && (line.component == i)) lines

abbrev pub IsParent : List BillLine → ℕ → ℕ → Type 0
IsParent lines p i = IsTrue (is_parent lines p i)

-- the parents of an item among the first items, each once, in table order
abbrev pub parents_of : List BillLine → ℕ → ℕ → List ℕ
parents_of lines count i = filter (λ p. is_parent lines p i) (range_with_len 0 count)

-- the components of an item, each once, in table order
abbrev pub children_of : List BillLine → ℕ → ℕ → List ℕ
children_of lines count p = filter (λ i. is_parent lines p i) (range_with_len 0 count)

-- the line at a place of the bill
abbrev pub line_at : List BillLine → ℕ → BillLine
line_at lines place = slice_index_or lines place (record { parent = 0; component = 0; per = 0 })

-- the places of the lines in which an item is the component, in table order
abbrev pub lines_of : List BillLine → ℕ → List ℕ
lines_of lines i = filter (λ place. (line_at lines place).component == i) (range_with_len 0 (length lines))

-- a chain of n lines leads from a to b: each line's component is the next line's parent
abbrev pub Chain : List BillLine → ℕ → ℕ → ℕ → Type 0
Chain lines n a b = Links (IsParent lines) n a b

-- a chain of at least one line leads from a to b
abbrev pub IsAbove : List BillLine → ℕ → ℕ → Type 0
IsAbove lines a b = Leads (IsParent lines) a b

-- n is the greatest number of lines in a chain that ends at i (low-level code)
pub record IsCode (lines : List BillLine) (i n : ℕ) : Type 0 where
  pub reached : (a : ℕ) × Chain lines n a i
  pub greatest : (m a : ℕ) → Chain lines m a i → m ≤ n

-- n is the greatest code of the first items, 0 without items
pub record IsDepth (lines : List BillLine) (count n : ℕ) : Type 0 where
  pub greatest : (i m : ℕ) → i < count → IsCode lines i m → m ≤ n
  pub reached : (n ≡ 0) ⊎ ((i : ℕ) × (i < count) × IsCode lines i n)

-- an item that is above itself
abbrev pub NeedsItself : List BillLine → ℕ → Type 0
NeedsItself lines i = IsAbove lines i i

-- the first item in table order that needs itself
abbrev pub IsFirstLoop : List BillLine → ℕ → Type 0
IsFirstLoop lines i = IsFirstRound (IsParent lines) i

-- each of a list of items is the parent of the next, from a to b
abbrev pub IsPath : List BillLine → ℕ → List ℕ → ℕ → Type 0
IsPath lines a rest b = IsTrail (IsParent lines) a rest b

-- a chain of items, each the parent of the next, that begins and ends at the first item that needs itself
abbrev pub IsLoopPath : List BillLine → List ℕ → Type 0
IsLoopPath lines path = (i : ℕ) × IsFirstLoop lines i × IsRound (IsParent lines) i path

-- what is proved of codes: they rise along each line, and each above 0 is one above a parent's
abbrev pub AreCodes : List BillLine → (ℕ → ℕ) → Type 0
AreCodes lines code = AreRising (IsParent lines) code

-- each of the first items is in the list exactly once
pub record HoldsEachOnce (count : ℕ) (order : List ℕ) : Type 0 where
  pub items : All (λ i. i < count) order
  pub each : (i : ℕ) → i < count → (place : ℕ) × (place < length order) × (slice_index order place ≡ i)
  pub once : (j k : ℕ) → j < length order → k < length order → slice_index order j ≡ slice_index order k → j ≡ k

-- an order of all items in which parents come before their components
pub record IsOrder (lines : List BillLine) (count : ℕ) (order : List ℕ) : Type 0 where
  pub all : HoldsEachOnce count order
  pub parents_first : (j k : ℕ) → j < length order → k < length order → IsParent lines (slice_index order j) (slice_index order k) → j < k
