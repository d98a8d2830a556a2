-- The section *Runs out first*: the items whose stock and placed orders are not enough.
use Rattle.std.specs.Prelude.{ℕ, Bool, ◌-◌, ◌^◌, ◌==◌, ◌&&◌, nat_le, not, List, [], ◌∷◌, ◌++◌, Option, None, Some, codes, decimal, flat_map, length, map, take, if◌then◌else◌}
use Rattle.std.specs.List.{filter, find}
use Rattle.mrp_facts.specs.Facts.{Facts}
use Rattle.mrp_page.specs.Amounts.{amount}
use Rattle.mrp_page.specs.Draw.{has_none, item_name_html, more_html}
use Rattle.mrp_page.specs.Frame.{count_row}
use Rattle.mrp_page.specs.Html.{is_zero}
use Rattle.mrp_page.specs.ItemFacts.{safety_cell_html}
use Rattle.mrp_page.specs.layout.Glance.{none_out, out_cells, out_first_open, out_late, outs_front, outs_head_end, outs_note, outs_safety}
use Rattle.mrp_page.specs.layout.Lists.{row_open, section_end, table_end}
use Rattle.mrp_page.specs.Row.{RowView, cell_at}
use Rattle.mrp_page.specs.Rows.{leaders, rank, rows_named}
use Rattle.mrp_page.specs.Scene.{SceneView}
use Rattle.mrp_page.specs.Shares.{week_rank}
use Rattle.mrp_page.specs.Sorted.{sorted_by}
use Rattle.mrp_page.specs.Template.{dated_html, has_word, row_html}
use Rattle.mrp_page.specs.declared.limits.TheConstants.{FEW_ROWS}
use Rattle.mrp_day.specs.declared.section.Section.TheVariants as s

-- orders are planned to be received in a week of a plan
abbrev pub is_planned : RowView → Bool
is_planned week = not (is_zero (cell_at week 5))

-- of each item the first week in which stock and the orders that are placed are not enough, so that orders are planned
abbrev pub short_weeks : List RowView → List RowView
short_weeks plan = leaders [] (filter is_planned plan)

-- how late the first planned order of an item is; empty if it is not kept
abbrev pub lateness : Option RowView → List ℕ
lateness None = []
lateness (Some order) = cell_at order 7

-- the sign of a difference, and its size
abbrev pub sign : ℕ → ℕ → List ℕ
sign more less = if nat_le less more then [] else codes "-"

abbrev pub distance : ℕ → ℕ → ℕ
distance more less = if nat_le less more then more - less else less - more

-- how far the balance of a week is from what is planned to be received in it
abbrev pub left_in : RowView → ℕ
left_in week = distance (amount (cell_at week 7)) (amount (cell_at week 5))

-- the first planned order of the item of a week
abbrev pub first_planned : SceneView → RowView → Option RowView
first_planned scene week = find (has_word 2 (codes "planned")) (rows_named (cell_at week 0) scene.orders)

-- what stands of an item that runs out: its name, the week, what is left then without planned orders, and how late the first
-- of these is
abbrev pub drawn_out : RowView → List ℕ → List ℕ → List ℕ → RowView
drawn_out week minus left late = record {
  section = s.Run;
  cells = cell_at week 0 ∷ cell_at week 1 ∷ minus ∷ left ∷ late ∷ [];
}

abbrev pub out_row : SceneView → RowView → RowView
out_row scene week = drawn_out week (sign (amount (cell_at week 7)) (amount (cell_at week 5))) (decimal (left_in week)) (lateness (first_planned scene week))

-- a number that falls as an item's order is later
abbrev pub falling_late : RowView → ℕ
falling_late out = 2 ^ 64 - 1 - rank (cell_at out 4)

-- the items that run out, by week, and in a week those first whose orders are the latest
abbrev pub outs_first : SceneView → List RowView → List RowView
outs_first scene plan = sorted_by week_rank (sorted_by falling_late (map (out_row scene) (short_weeks plan)))

-- an item that runs out, with its safety stock if the tables are given
unfoldable pub out_line : SceneView → RowView → List ℕ
out_line scene out =
    row_open
    ++ (item_name_html scene.shown (cell_at out 0)
    ++ (dated_html scene.tables out_cells out
    ++ (safety_cell_html scene.tables (cell_at out 0)
    ++ row_html out_late out)))

-- the head of a column of safety stocks, if the tables are given
abbrev pub safety_head : Option Facts → List ℕ
safety_head None = []
safety_head (Some facts) = outs_safety

-- a table of items that run out
unfoldable pub outs_table : SceneView → List RowView → List ℕ
outs_table scene outs =
    outs_front
    ++ (safety_head scene.tables
    ++ (outs_head_end
    ++ (flat_map (out_line scene) outs
    ++ table_end)))

-- the items that run out first; if there are none, and all records are kept, that there are none
unfoldable pub outs_html : SceneView → ℕ → List RowView → List ℕ
outs_html scene missed outs =
    if has_none outs && (missed == 0) then none_out
    else row_html outs_note (count_row (length outs) [] []) ++ outs_table scene (take FEW_ROWS outs)

-- for how many more weeks there are records
unfoldable pub outs_back : ℕ → List ℕ
outs_back missed =
    more_html missed (codes "week of a record is") (codes "weeks of records are")
    ++ section_end

-- the section *Runs out first*
unfoldable pub outs_section : SceneView → List RowView → ℕ → List ℕ
outs_section scene plan missed =
    out_first_open
    ++ (outs_html scene missed (outs_first scene plan)
    ++ outs_back missed)
