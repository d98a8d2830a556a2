-- The items (profile).
use Rattle.std.specs.Prelude.{ℕ, ◌≡◌, ◌≤◌, ◌⊎◌, ◌==◌, ◌&&◌, Bool, true, false, nat_lt, nat_eq, if◌then◌else◌, List, [], ◌∷◌, ◌++◌, codes, map, position, slice_index_or, Option, Result, Ok, Err}
use Rattle.std.specs.List.{list_any}
use Rattle.std.specs.Cmp.Lexicographic.{pointwise}
use Rattle.mrp_qty.specs.Reading.{◌>>=◌}
use Rattle.mrp_rows.specs.declared.fault.Fault.{Fault}
use Rattle.mrp_rows.specs.declared.faults.TheConstants as faults
use Rattle.mrp_rows.specs.Left.{Cells}
use Rattle.mrp_rows.specs.Cell.{cell_at, fault_at, blame, or_code, name_of, number_cell, word_of}
use Rattle.mrp_tables.specs.declared.limits.TheConstants as limits
use Rattle.mrp_tables.specs.declared.item.Class.{Class}
use Rattle.mrp_tables.specs.declared.item.Class.TheVariants.{Master, Part}
use Rattle.mrp_tables.specs.declared.item.LotRule.{LotRule}
use Rattle.mrp_tables.specs.declared.item.LotRule.TheVariants.{LotForLot, Fixed, Period}
use Rattle.mrp_tables.specs.declared.item.Item.{Item}
use Rattle.mrp_tables.specs.declared.version.Version.{Version}
use Rattle.mrp_tables.specs.Limits.{lot_words}
use Rattle.mrp_tables.specs.Versions.{has_steps, most_lead}

abbrev pub class_words : List (List ℕ)
class_words = codes "master" ∷ codes "part" ∷ []

abbrev pub class_at : ℕ → Class
class_at place = if place == 0 then Master else Part

abbrev pub is_master : Class → Bool
is_master Master = true
is_master Part = false

-- the lot rule of a word's place and a size, which has no effect on lot for lot
abbrev pub lot_at : ℕ → ℕ → LotRule
lot_at place size = if place == 0 then LotForLot else if place == 1 then Fixed size else Period size

-- the least and the greatest size of a lot rule: any for lot for lot, pieces for fixed lots, weeks for periods
abbrev pub least_size : ℕ → ℕ
least_size place = if place == 0 then 0 else 1

abbrev pub greatest_size : ℕ → ℕ
greatest_size place = if nat_lt place 2 then limits.MOST_PIECES else limits.MOST_PERIOD

-- how many cells an item's record has: seven, and two more where items have a minimum order quantity and an order multiple
pub record AreItemCells (version : Version) (count : ℕ) : Type 0 where
  pub seven : 7 ≤ count
  pub steps : has_steps version ≡ true → 9 ≤ count

-- the minimum order quantity, or 0 in a version whose items have none
abbrev pub least_cell : Version → Cells → Result ℕ Fault
least_cell version r = if has_steps version then blame r (number_cell 0 limits.MOST_LEAST (cell_at r 7)) else Ok 0

-- the order multiple, or 1 in a version whose items have none
abbrev pub step_cell : Version → Cells → Result ℕ Fault
step_cell version r = if has_steps version then blame r (number_cell 1 limits.MOST_STEP (cell_at r 8)) else Ok 1

-- a record's cells in a version, from left to right
unfoldable pub item_cells : Version → Cells → Result Item Fault
item_cells version r = do
  name ← blame r (name_of (cell_at r 0))
  class ← blame r (word_of class_words (cell_at r 1))
  lead ← blame r (number_cell 0 (most_lead version) (cell_at r 2))
  scrap ← blame r (number_cell 0 limits.MOST_SCRAP (cell_at r 3))
  lot ← blame r (word_of lot_words (cell_at r 4))
  size ← blame r (number_cell (least_size lot) (greatest_size lot) (cell_at r 5))
  safety ← blame r (number_cell 0 limits.MOST_PIECES (cell_at r 6))
  least ← least_cell version r
  step ← step_cell version r
  Ok (record { name = name; class = class_at class; lead = lead; scrap = scrap; lot = lot_at lot size; safety = safety; least = least; step = step })

abbrev pub names_of : List Item → List (List ℕ)
names_of items = map (λ i. i.name) items

-- the place of a name among the items
abbrev pub place_of : List ℕ → List Item → Option ℕ
place_of name items = position (pointwise nat_eq name) (names_of items)

-- the place of the item with a name, or UNKNOWN_ITEM
abbrev pub known : List Item → List ℕ → Result ℕ ℕ
known items name = or_code faults.UNKNOWN_ITEM (place_of name items)

-- a placeholder where there is no item
abbrev pub no_item : Item
no_item = record { name = []; class = Part; lead = 0; scrap = 0; lot = LotForLot; safety = 0; least = 0; step = 1 }

-- the item at a place
abbrev pub item_at : List Item → ℕ → Item
item_at items place = slice_index_or items place no_item

abbrev pub is_master_at : List Item → ℕ → Bool
is_master_at items place = is_master (item_at items place).class

-- no earlier item has the name, or REPEATED; a master item has no safety stock, or MASTER_SAFETY
abbrev pub item_checked : List Item → Cells → Item → Result Item Fault
item_checked before r item =
    if list_any (pointwise nat_eq item.name) (names_of before) then Err (fault_at r faults.REPEATED)
    else if is_master item.class && nat_lt 0 item.safety then Err (fault_at r faults.MASTER_SAFETY)
    else Ok item

abbrev pub item_row : Version → List Item → Cells → Result Item Fault
item_row version before r = item_cells version r >>= item_checked before r

-- adding an item of a record: it is added where it is checked, or nothing is, for its fault or because memory was refused
abbrev pub AddsItem : List Item → Item → Cells → Result (Unit {0}) Fault → List Item → Type 0
AddsItem old item r (Ok u) new = (item_checked old r item ≡ Ok item) × (new ≡ old ++ (item ∷ []))
AddsItem old item r (Err f) new = (new ≡ old) × (((item_checked old r item ≡ Ok item) × (f ≡ fault_at r faults.NO_MEMORY)) ⊎ (item_checked old r item ≡ Err f))
