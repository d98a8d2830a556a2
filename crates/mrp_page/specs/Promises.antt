-- The section *Promises at risk*: the bookings that wait, through any number of orders, for a late order.
use Rattle.std.specs.Prelude.{ℕ, Bool, true, false, ◌≡◌, ◌==◌, ◌&&◌, min, not, List, [], ◌∷◌, ◌++◌, Option, None, Some, codes, decimal, flat_map, length, if◌then◌else◌}
use Rattle.std.specs.List.{range_with_len}
use Rattle.mrp_day.specs.declared.section.Section.TheVariants as s
use Rattle.mrp_page.specs.declared.counts.Counts.{Counts}
use Rattle.mrp_page.specs.declared.limits.TheConstants.{MOST_AMOUNT, SOME_ROWS}
use Rattle.mrp_page.specs.AtRisk.{RisksView}
use Rattle.mrp_page.specs.Draw.{has_none, item_name_html}
use Rattle.mrp_page.specs.Folded.{Listing, capped_html}
use Rattle.mrp_page.specs.layout.Lists.{row_open, section_end, table_end}
use Rattle.mrp_page.specs.layout.Risk.{none_at_risk, risk_booking, risk_front, risk_middle, risk_note, risk_open, risk_order, risks_unknown}
use Rattle.mrp_page.specs.layout.Todo.{weeks_late}
use Rattle.mrp_page.specs.Numbering.{AreAnswers, row_at}
use Rattle.mrp_page.specs.Orders.{linked_html, ordered}
use Rattle.mrp_page.specs.Outs.{falling_late}
use Rattle.mrp_page.specs.Refused.{entry_name_html}
use Rattle.mrp_page.specs.Row.{RowView, cell_at}
use Rattle.mrp_page.specs.Scene.{SceneView}
use Rattle.mrp_page.specs.Shares.{week_rank}
use Rattle.mrp_page.specs.Sorted.{sorted_by}
use Rattle.mrp_page.specs.Spot.{Names}
use Rattle.mrp_page.specs.Template.{dated_html, row_html}
use Rattle.mrp_risk.specs.declared.risk.Risk.{Risk}
use Rattle.mrp_risk.specs.Risks.{risk_at}

-- how many pieces are shown; from a limit on, numbers count as equal
abbrev pub shown_pieces : ℕ → ℕ
shown_pieces pieces = min pieces MOST_AMOUNT

-- what stands of a booking at risk: its item, week and number; its pieces; and of the late order how late it is, its item, number
-- and kind
abbrev pub drawn_risk : RowView → RowView → List ℕ → RowView
drawn_risk peg order pieces = record {
  section = s.Run;
  cells = cell_at peg 0 ∷ cell_at peg 1 ∷ cell_at peg 3 ∷ pieces ∷ cell_at order 7 ∷ cell_at order 0 ∷ cell_at order 1 ∷ cell_at order 2 ∷ [];
}

abbrev pub risk_row : List RowView → RowView → Risk → RowView
risk_row orders peg risk = drawn_risk peg (row_at orders risk.order) (decimal (shown_pieces risk.pieces))

-- what stands of a booking, if it is at risk, by its first peg
abbrev pub rows_at_risk : List RowView → RowView → Option Risk → List RowView
rows_at_risk orders peg None = []
rows_at_risk orders peg (Some risk) = risk_row orders peg risk ∷ []

-- what stands of the bookings at risk
abbrev pub risk_rows : List RowView → List RowView → List (Option Risk) → List RowView
risk_rows orders pegs risks = flat_map (λ place. rows_at_risk orders (row_at pegs place) (risk_at risks place)) (range_with_len 0 (length pegs))

-- rows are what stands of the bookings that wait for a late order
abbrev pub AreRisks : List RowView → List RowView → List RowView → Type 0
AreRisks orders pegs rows = (risks : List (Option Risk)) × AreAnswers orders pegs risks × (rows ≡ risk_rows orders pegs risks)

-- all orders and pegs of a day are kept: no items are named, and none of their rows is left out
abbrev pub are_all_kept : Names → Counts → Bool
are_all_kept items counts = (length items == 0) && ((counts.orders == 0) && (counts.pegs == 0))

-- the bookings at risk, if they are known, and else none
abbrev pub AreRisksIf : Bool → List RowView → List RowView → List RowView → Type 0
AreRisksIf true orders pegs rows = AreRisks orders pegs rows
AreRisksIf false orders pegs rows = rows ≡ []

-- they are known where all orders and pegs are kept
abbrev pub AreRisksOf : Names → Counts → List RowView → List RowView → RisksView → Type 0
AreRisksOf items counts orders pegs risks = (risks.known ≡ are_all_kept items counts) × AreRisksIf risks.known orders pegs risks.rows

-- the bookings at risk: those first whose orders are the latest, then by week
abbrev pub risks_first : List RowView → List RowView
risks_first rows = sorted_by falling_late (sorted_by week_rank rows)

-- the late order that a booking waits for, and how late it is
unfoldable pub risk_end : SceneView → RowView → List ℕ
risk_end scene risk =
    linked_html scene (ordered scene (cell_at risk 5) (cell_at risk 7) (cell_at risk 6)) (row_html risk_order risk)
    ++ (codes "</td>"
    ++ row_html weeks_late risk)

-- a booking at risk
unfoldable pub risk_line : SceneView → RowView → List ℕ
risk_line scene risk =
    row_open
    ++ (item_name_html scene.shown (cell_at risk 0)
    ++ (risk_booking
    ++ (entry_name_html scene.history (cell_at risk 2)
    ++ (dated_html scene.tables risk_middle risk
    ++ risk_end scene risk))))

abbrev pub risk_listing : SceneView → Listing
risk_listing scene = record { line = risk_line scene; front = risk_front; back = table_end }

-- the bookings at risk, that there are none, or that they are not known
unfoldable pub risks_or_none : SceneView → Bool → List RowView → List ℕ
risks_or_none scene known rows =
    if not known then risks_unknown
    else if has_none rows then none_at_risk
    else risk_note ++ capped_html (risk_listing scene) SOME_ROWS rows

-- the section *Promises at risk*
unfoldable pub risks_html : SceneView → RisksView → List ℕ
risks_html scene risks =
    risk_open
    ++ (risks_or_none scene risks.known (risks_first risks.rows)
    ++ section_end)
