-- The picture of a work centre's loads.
use Rattle.std.specs.Prelude.{ℕ, List, [], ◌++◌, codes}
use Rattle.mrp_page.specs.Draw.{table_html}
use Rattle.mrp_page.specs.Frame.{frame}
use Rattle.mrp_page.specs.layout.Centres.{above_bar, above_end, cut_bar, hot_bar, hot_end, load_chart, load_end, low_bar, low_end}
use Rattle.mrp_page.specs.Row.{RowView}
use Rattle.mrp_page.specs.Rows.{greatest}
use Rattle.mrp_page.specs.Template.{row_html, rows_html}

-- the bars of the picture of loads: up to the capacity, to there where there is more, what is above, and a mark where that is
-- cut
unfoldable pub bars_html : List RowView → List ℕ
bars_html shares =
    table_html [] low_bar shares low_end
    ++ (table_html [] hot_bar shares hot_end
    ++ (table_html [] above_bar shares above_end
    ++ rows_html cut_bar shares))

-- the picture of a work centre's loads, from its frame and its shares
unfoldable pub picture_html : RowView → List RowView → List ℕ
picture_html frame shares =
    row_html load_chart frame
    ++ (bars_html shares
    ++ row_html load_end frame)

-- the frame of a work centre: its name and its last week
abbrev pub centre_frame : List ℕ → List RowView → RowView
centre_frame name rows = frame name (greatest 1 (codes "1") rows) []
