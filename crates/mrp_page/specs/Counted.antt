-- How many rows of a day are kept, section by section, and how many are counted as left out.
use Rattle.std.specs.Prelude.{ℕ, Bool, ⊤, ◌≡◌, ◌⊎◌, ◌&&◌, List, [], ◌∷◌, filter, map, slice_index_or, sum_by}
use Rattle.mrp_page.specs.Amounts.{amount}
use Rattle.mrp_page.specs.Notes.{Noted}
use Rattle.mrp_page.specs.Row.{Cells, RowView, cell_at, is_in, same_text}
use Rattle.mrp_page.specs.Shown.{rows_of}
use Rattle.mrp_page.specs.Spot.{Names, wants}
use Rattle.mrp_page.specs.declared.counts.Counts.{Counts}
use Rattle.mrp_day.specs.declared.section.Section.{Section}
use Rattle.mrp_day.specs.declared.section.Section.TheVariants as s

-- the rows of a section in a run of a day that a page should show
abbrev pub wanted_rows : Names → Section → ℕ → List Cells → List Cells
wanted_rows items section run records = filter (wants items section) (rows_of section run records)

-- these rows are some of those, in order
unfoldable pub AreSomeOf : List Cells → List Cells → Type 0
AreSomeOf [] rows = ⊤
AreSomeOf (kept ∷ more) [] = ⊥
AreSomeOf (kept ∷ more) (row ∷ rows) = ((kept ≡ row) × AreSomeOf more rows) ⊎ AreSomeOf (kept ∷ more) rows

-- the rows that are kept of a section of the report
abbrev pub kept_of : Section → Noted → List RowView
kept_of section notes = filter (is_in section) notes.report

-- the records that these rows are
abbrev pub records_of : List RowView → List Cells
records_of rows = map (λ r. r.cells) rows

-- how many rows of a section are counted as left out; the section `run` has a single row
abbrev pub missed_of : Section → Counts → ℕ
missed_of s.History counts = counts.history
missed_of s.Run counts = 0
missed_of s.Promises counts = counts.promises
missed_of s.Plan counts = counts.plan
missed_of s.Orders counts = counts.orders
missed_of s.Pegs counts = counts.pegs
missed_of s.Messages counts = counts.messages
missed_of s.Loads counts = counts.loads

-- how many pieces those pegs among these have together that pass
abbrev pub together : (Cells → Bool) → List Cells → ℕ
together passes pegs = sum_by (λ peg. amount (slice_index_or peg 8 [])) (filter passes pegs)

-- a peg is of the supply that an order is
abbrev pub is_peg_of : RowView → Cells → Bool
is_peg_of order peg =
    same_text (slice_index_or peg 0 []) (cell_at order 0) && (same_text (slice_index_or peg 6 []) (cell_at order 2) && same_text (slice_index_or peg 7 []) (cell_at order 1))
