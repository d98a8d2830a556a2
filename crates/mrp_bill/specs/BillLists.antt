-- The lists of a bill: the lines to each item, its parents and its components.
use Rattle.std.specs.Prelude.{ℕ, ◌≡◌, ◌<◌, ◌==◌, Bool, List, length}
use Rattle.mrp_tables.specs.declared.rows.BillLine.{BillLine}
use Rattle.mrp_bill.specs.declared.groups.Numbered.{Numbered}
use Rattle.mrp_bill.specs.declared.lists.Lists.{Lists}
use Rattle.mrp_bill.specs.Bill.{line_at, lines_of, parents_of, children_of}
use Rattle.mrp_bill.specs.Grouped.{listed}

-- a line's place, numbered by the line's component
abbrev pub to_component : List BillLine → ℕ → Numbered ℕ
to_component lines place = record { number = (line_at lines place).component; value = place }

-- whether the line at a place has this parent
abbrev pub has_parent : List BillLine → ℕ → ℕ → Bool
has_parent lines p place = (line_at lines place).parent == p

-- a parent, numbered by one of its components
abbrev pub of_parent : ℕ → ℕ → Numbered ℕ
of_parent parent component = record { number = component; value = parent }

pub record AreLists (bill : List BillLine) (count : ℕ) (lists : Lists) : Type 0 where
  pub lines_size : length lists.lines ≡ count
  pub parents_size : length lists.parents ≡ count
  pub children_size : length lists.children ≡ count
  pub lines : (i : ℕ) → i < count → listed lists.lines i ≡ lines_of bill i
  pub parents : (i : ℕ) → i < count → listed lists.parents i ≡ parents_of bill count i
  pub children : (i : ℕ) → i < count → listed lists.children i ≡ children_of bill count i
