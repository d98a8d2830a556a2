-- The summary of a page: counts that lead to their parts.
use Rattle.std.specs.Prelude.{ℕ, Bool, List, [], ◌∷◌, ◌++◌, ◌==◌, ◌||◌, codes, count_by, decimal, length, not, if◌then◌else◌}
use Rattle.std.specs.List.{filter}
use Rattle.mrp_page.specs.Html.{is_zero}
use Rattle.mrp_page.specs.layout.Head.{centre_tile, main_open, summary_open, summary_tile}
use Rattle.mrp_page.specs.AtRisk.{RisksView}
use Rattle.mrp_page.specs.Row.{RowView, cell_at}
use Rattle.mrp_page.specs.Rows.{leaders}
use Rattle.mrp_page.specs.Template.{has_word, row_html}
use Rattle.mrp_day.specs.declared.section.Section.TheVariants as s

-- a count, where it leads to, and what it counts: `none` marks a count of 0, and a second count may follow
abbrev pub tile : ℕ → List ℕ → List ℕ → List ℕ → ℕ → RowView
tile count mark place what all = record { section = s.Run; cells = decimal count ∷ (if count == 0 then codes "none" else mark) ∷ place ∷ what ∷ decimal all ∷ [] }

unfoldable pub tile_html : ℕ → List ℕ → List ℕ → List ℕ → List ℕ
tile_html count mark place what = row_html summary_tile (tile count mark place what count)

-- how many rows have a word in a column
abbrev pub count_with : ℕ → List ℕ → List RowView → ℕ
count_with column word rows = count_by (has_word column word) rows

-- a cancellation that was not done
abbrev pub is_undone : RowView → Bool
is_undone call = has_word 7 (codes "not-standing") call || has_word 7 (codes "not-yours") call

-- the calls that were not answered as they asked
unfoldable pub calls_tiles : List RowView → List ℕ
calls_tiles history =
    tile_html (count_with 7 (codes "short") history) (codes "late") (codes "unkept") (codes "not promised")
    ++ tile_html (count_by is_undone history) (codes "cancel") (codes "unkept") (codes "not cancelled")

-- the bookings at risk, if they are known
unfoldable pub risk_tile : RisksView → List ℕ
risk_tile risks = if risks.known then tile_html (length risks.rows) (codes "late") (codes "risk") (codes "at risk") else []

-- the place of a kind of messages, or of all of them where it has none
abbrev pub place_or : ℕ → List ℕ → List ℕ
place_or count place = if count == 0 then codes "todo" else place

-- the messages of a kind
unfoldable pub kind_tile : List RowView → List ℕ → List ℕ → List ℕ → List ℕ
kind_tile messages word mark what =
    tile_html (count_with 3 word messages) mark (place_or (count_with 3 word messages) mark) what

unfoldable pub kinds_tiles : List RowView → List ℕ
kinds_tiles messages =
    kind_tile messages (codes "PAST-DUE") (codes "late") (codes "past due")
    ++ (kind_tile messages (codes "RELEASE") (codes "release") (codes "release")
    ++ (kind_tile messages (codes "IN") (codes "in") (codes "reschedule in")
    ++ (kind_tile messages (codes "OUT") (codes "out") (codes "reschedule out")
    ++ kind_tile messages (codes "CANCEL") (codes "cancel") (codes "cancel"))))

-- a week of a work centre is over its capacity
abbrev pub is_over : RowView → Bool
is_over load = not (is_zero (cell_at load 4))

-- the weeks of work centres that are over their capacity
abbrev pub overloads : List RowView → List RowView
overloads loads = filter is_over loads

-- how many work centres rows belong to
abbrev pub centre_count : List RowView → ℕ
centre_count loads = length (leaders [] loads)

-- how many of all work centres are over their capacity
abbrev pub over_tile : List RowView → RowView
over_tile loads = tile (centre_count (overloads loads)) (codes "late") (codes "centres") [] (centre_count loads)

unfoldable pub centres_tile : List RowView → List ℕ
centres_tile loads = row_html centre_tile (over_tile loads)

-- the counts, each with a link to its part
unfoldable pub summary_html : List RowView → List RowView → List RowView → RisksView → List ℕ
summary_html history messages loads risks =
    summary_open
    ++ (calls_tiles history
    ++ (risk_tile risks
    ++ (kinds_tiles messages
    ++ (centres_tile loads
    ++ main_open))))
