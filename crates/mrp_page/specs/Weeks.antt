-- The weeks of a table's heading, and their dates.
use Rattle.std.specs.Prelude.{ℕ, ◌==◌, List, [], ◌++◌, Option, flat_map, length, if◌then◌else◌}
use Rattle.mrp_facts.specs.Facts.{Facts}
use Rattle.mrp_page.specs.Dates.{date_in}
use Rattle.mrp_page.specs.Escaped.{escaped}
use Rattle.mrp_page.specs.layout.Head.{start_end, start_open}
use Rattle.mrp_page.specs.layout.Records.{date_end, date_open, week, week_end, weeks_end}
use Rattle.mrp_page.specs.Row.{RowView, cell_at}
use Rattle.mrp_page.specs.Template.{row_html}

-- a date below the number of a week; nothing if it is empty
abbrev pub date_html : List ℕ → List ℕ
date_html date = if length date == 0 then [] else date_open ++ (escaped date ++ date_end)

-- the week of a row, with its date
abbrev pub week_html : Option Facts → RowView → List ℕ
week_html tables row = row_html week row ++ (date_html (date_in tables (cell_at row 1)) ++ week_end)

-- the weeks of a table
unfoldable pub weeks_html : Option Facts → List RowView → List ℕ
weeks_html tables rows = flat_map (week_html tables) rows ++ weeks_end

-- a date from which on a page plans; nothing if it is empty
abbrev pub start_html : List ℕ → List ℕ
start_html date = if length date == 0 then [] else start_open ++ (escaped date ++ start_end)
