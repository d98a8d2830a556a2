-- Rows of a day.
use Rattle.std.specs.Prelude.{ℕ, Bool, List, [], slice_index_or, nat_eq}
use Rattle.std.specs.Cmp.Lexicographic.{pointwise}
use Rattle.mrp_page.specs.Section.{same_section}
use Rattle.mrp_day.specs.declared.section.Section.{Section}

-- the cells of a record
abbrev pub Cells : Type 0
Cells = List (List ℕ)

-- a row and its section
pub record RowView : Type 0 where
  pub section : Section
  pub cells : Cells

-- a row's cell in a column, counted from 0; empty past its last
abbrev pub cell_at : RowView → ℕ → List ℕ
cell_at r column = slice_index_or r.cells column []

-- two texts are the same
abbrev pub same_text : List ℕ → List ℕ → Bool
same_text a b = pointwise nat_eq a b

-- a row is of this item or work centre: that is its first cell
abbrev pub is_of : List ℕ → RowView → Bool
is_of name r = same_text (cell_at r 0) name

-- a row is in this section
abbrev pub is_in : Section → RowView → Bool
is_in section r = same_section r.section section
