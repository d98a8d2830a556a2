-- The section of the work centres: where they are over their capacity, and each of them week by week.
use Rattle.std.specs.Prelude.{ℕ, List, Option, None, Some, [], ◌++◌, ◌==◌, ◌&&◌, codes, drop, flat_map, length, map, take, if◌then◌else◌}
use Rattle.mrp_page.specs.declared.limits.TheConstants.{MOST_EXPLAINED, SOME_ROWS, TABLE_WEEKS}
use Rattle.mrp_page.specs.Draw.{has_none, more_html, table_html}
use Rattle.mrp_page.specs.Explained.{overload_html}
use Rattle.mrp_page.specs.Folded.{Listing, capped_html}
use Rattle.mrp_page.specs.Frame.{count_row}
use Rattle.mrp_page.specs.layout.Centres.{capacity_label, centre_head, centre_open, centres_open, load_label, none_over, over_front, over_label, over_open, share_cell, share_label}
use Rattle.mrp_page.specs.layout.Lists.{grid_end, list_end, rest_end, section_end}
use Rattle.mrp_page.specs.layout.Records.{later_open}
use Rattle.mrp_page.specs.layout.Work.{work_note}
use Rattle.mrp_page.specs.Pictured.{centre_frame, picture_html}
use Rattle.mrp_page.specs.Row.{RowView, cell_at}
use Rattle.mrp_page.specs.Rows.{leaders, rows_named}
use Rattle.mrp_page.specs.Scene.{SceneView}
use Rattle.mrp_page.specs.Shares.{minutes_at, overloads_first, share_row}
use Rattle.mrp_page.specs.Template.{row_html}
use Rattle.mrp_page.specs.Weeks.{weeks_html}
use Rattle.mrp_page.specs.Work.{WorkView, work_view}
use Rattle.mrp_facts.specs.Facts.{Facts}

-- a row of a table over the weeks: the minutes of a column
unfoldable pub times_html : List ℕ → ℕ → List RowView → List ℕ
times_html label column rows = label ++ (flat_map (minutes_at column) rows ++ codes "</tr>\n")

-- the shares of a table
unfoldable pub shares_html : List RowView → List ℕ
shares_html rows = table_html share_label share_cell (map share_row rows) (codes "</tr>\n")

-- the rows of a work centre's table
unfoldable pub loads_html : List RowView → List ℕ
loads_html rows =
    times_html load_label 2 rows
    ++ (times_html capacity_label 3 rows
    ++ (shares_html rows
    ++ (times_html over_label 4 rows
    ++ grid_end)))

-- a table of some weeks of a work centre
unfoldable pub loads_table : Option Facts → RowView → List RowView → List ℕ
loads_table tables frame rows =
    row_html centre_head frame
    ++ (weeks_html tables rows
    ++ loads_html rows)

-- a table of its further weeks, folded
unfoldable pub later_loads : Option Facts → RowView → List RowView → List ℕ
later_loads tables frame rows =
    if has_none rows then [] else later_open ++ (loads_table tables frame rows ++ rest_end)

-- the weeks of a work centre
unfoldable pub all_loads : Option Facts → RowView → List RowView → List ℕ
all_loads tables frame rows = loads_table tables frame (take TABLE_WEEKS rows) ++ later_loads tables frame (drop TABLE_WEEKS rows)

-- a work centre, from its frame: its loads as shares of its capacities, and week by week
unfoldable pub framed_centre : Option Facts → RowView → List RowView → List ℕ
framed_centre tables frame rows =
    row_html centre_open frame
    ++ (picture_html frame (map share_row rows)
    ++ (all_loads tables frame rows
    ++ section_end))

-- a work centre, by a row of it
unfoldable pub centre_html : Option Facts → List RowView → RowView → List ℕ
centre_html tables loads leader =
    framed_centre tables (centre_frame (cell_at leader 0) (rows_named (cell_at leader 0) loads)) (rows_named (cell_at leader 0) loads)

-- work centres, by a row of each
unfoldable pub each_centre : Option Facts → List RowView → List RowView → List ℕ
each_centre tables loads leaders = flat_map (centre_html tables loads) leaders

-- weeks of work centres that are over their capacity
abbrev pub over_listing : SceneView → Option WorkView → Listing
over_listing scene work = record { line = overload_html scene work; front = over_front; back = list_end }

-- what is said of them all, if the first are explained
abbrev pub explained_note : Option WorkView → List ℕ
explained_note None = []
explained_note (Some work) = work_note

-- weeks of work centres that are over their capacity; if there are none, and all weeks are kept, that there are none
unfoldable pub over_or_none : SceneView → Option WorkView → ℕ → List RowView → List ℕ
over_or_none scene work missed rows =
    if has_none rows && (missed == 0) then none_over
    else row_html over_open (count_row (length rows) [] []) ++ (explained_note work ++ capped_html (over_listing scene work) SOME_ROWS rows)

-- for how many more weeks there are loads
unfoldable pub centres_back : ℕ → List ℕ
centres_back missed =
    more_html missed (codes "week of a work centre is") (codes "weeks of work centres are")
    ++ section_end

-- the operations that load the first overloads, if the tables are given
abbrev pub work_in : SceneView → List RowView → Option WorkView
work_in scene loads = work_view scene.tables scene.orders (take MOST_EXPLAINED (overloads_first loads))

-- the section of the work centres
unfoldable pub load_section : SceneView → List RowView → ℕ → List ℕ
load_section scene loads missed =
    centres_open
    ++ (over_or_none scene (work_in scene loads) missed (overloads_first loads)
    ++ (each_centre scene.tables loads (leaders [] loads)
    ++ centres_back missed))
