-- Rows of a page that are not the day's.
use Rattle.std.specs.Prelude.{ℕ, List, [], ◌∷◌, ◌==◌, codes, decimal, if◌then◌else◌}
use Rattle.mrp_day.specs.declared.section.Section.TheVariants as s
use Rattle.mrp_page.specs.Row.{RowView}
use Rattle.mrp_page.specs.Rows.{greatest, rows_in}

-- a frame: the name, the weeks and the greatest number of a table
abbrev pub frame : List ℕ → List ℕ → List ℕ → RowView
frame name weeks top = record { section = s.Run; cells = name ∷ weeks ∷ top ∷ [] }

-- the frame of rows; its greatest number is that of two columns, or this one if that is greater
abbrev pub frame_of : List ℕ → List RowView → ℕ → ℕ → List ℕ → RowView
frame_of name rows column other least = frame name (greatest 1 (codes "1") rows) (greatest other (greatest column least rows) rows)

-- the last week of a report, in its plan or its loads
abbrev pub last_week : List RowView → List ℕ
last_week report = greatest 1 (greatest 1 (codes "0") (rows_in s.Plan report)) (rows_in s.Loads report)

-- the title of a page, the entry that its run plans from, the bookings there, the weeks, and the number of items
abbrev pub heading : List ℕ → List RowView → ℕ → RowView
heading title report items = record { section = s.Run; cells = title ∷ greatest 0 (codes "0") (rows_in s.Run report) ∷ greatest 1 (codes "0") (rows_in s.Run report) ∷ last_week report ∷ decimal items ∷ [] }

-- a count of what is not shown, and the word for it, singular or plural
abbrev pub count_row : ℕ → List ℕ → List ℕ → RowView
count_row count one more = record { section = s.Run; cells = decimal count ∷ (if count == 1 then one else more) ∷ [] }
