-- Which rows of a report belong together.
use Rattle.std.specs.Prelude.{ℕ, Bool, ◌+◌, ◌*◌, ◌-◌, ◌^◌, min, nat_lt, not, List, [], ◌∷◌, ◌++◌, drop, unwrap_or, if◌then◌else◌}
use Rattle.std.specs.List.{before_first, fold, position, position_or_len}
use Rattle.mrp_day.specs.declared.section.Section.{Section}
use Rattle.mrp_page.specs.Row.{RowView, cell_at, is_in, is_of}

-- the first stretch of elements that pass
abbrev pub stretch : {A : Type 0} → (A → Bool) → List A → List A
stretch passes xs = before_first (λ x. not (passes x)) (drop (position_or_len passes xs) xs)

-- the rows of a section
unfoldable pub rows_in : Section → List RowView → List RowView
rows_in section rows = stretch (is_in section) rows

-- the rows of an item or a work centre in a section
unfoldable pub rows_named : List ℕ → List RowView → List RowView
rows_named name rows = stretch (is_of name) rows

-- where the rows of an item begin; at 0 if there are none
abbrev pub start_of : List RowView → List ℕ → ℕ
start_of rows name = unwrap_or (position (is_of name) rows) 0

-- a row that is not of the same item or work centre as the one before it
abbrev pub leader_rows : List ℕ → RowView → List RowView
leader_rows previous r = if is_of previous r then [] else r ∷ []

-- the first row of each item or work centre, after rows of this one
unfoldable pub leaders : List ℕ → List RowView → List RowView
leaders previous [] = []
leaders previous (r ∷ rows) = leader_rows previous r ++ leaders (cell_at r 0) rows

-- the name of the last of these rows, after rows of this one
unfoldable pub last_name : List ℕ → List RowView → List ℕ
last_name previous [] = previous
last_name previous (r ∷ rows) = last_name (cell_at r 0) rows

-- a number with one more digit; it saturates at the greatest number
abbrev pub ranked : ℕ → ℕ → ℕ
ranked rank byte = min (min (rank * 10) (2 ^ 64 - 1) + byte) (2 ^ 64 - 1)

-- a number by which texts of numbers with equally many decimals are compared
unfoldable pub rank : List ℕ → ℕ
rank text = fold ranked 0 text

-- the greater of two numbers
abbrev pub higher : List ℕ → List ℕ → List ℕ
higher top cell = if nat_lt (rank top) (rank cell) then cell else top

-- the greatest number of a column, and at least this one
unfoldable pub greatest : ℕ → List ℕ → List RowView → List ℕ
greatest column least rows = fold (λ top r. higher top (cell_at r column)) least rows
