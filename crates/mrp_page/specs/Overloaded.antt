-- The work centres that are most over their capacity.
use Rattle.std.specs.Prelude.{ℕ, ◌+◌, ◌*◌, ◌/◌, ◌-◌, ◌^◌, ◌==◌, min, List, [], ◌∷◌, ◌++◌, Option, None, Some, codes, count_by, decimal, flat_map, length, map, take, unwrap_or, if◌then◌else◌}
use Rattle.std.specs.List.{fold}
use Rattle.mrp_page.specs.Amounts.{amount}
use Rattle.mrp_page.specs.layout.Glance.{overloaded_line, overloaded_open}
use Rattle.mrp_page.specs.layout.Lists.{section_end}
use Rattle.mrp_page.specs.Pictured.{centre_frame, picture_html}
use Rattle.mrp_page.specs.Row.{RowView, cell_at}
use Rattle.mrp_page.specs.Rows.{leaders, rows_named}
use Rattle.mrp_page.specs.Shares.{falling_share, share, share_row}
use Rattle.mrp_page.specs.Sorted.{sorted_by}
use Rattle.mrp_page.specs.Summary.{is_over, overloads}
use Rattle.mrp_page.specs.Template.{dated_html}
use Rattle.mrp_facts.specs.Facts.{Facts}
use Rattle.mrp_page.specs.declared.limits.TheConstants.{MOST_AMOUNT, MOST_OVERLOADED, RATE_UNIT}
use Rattle.mrp_day.specs.declared.section.Section.TheVariants as s

-- a sum with a time
abbrev pub with_time : ℕ → ℕ → RowView → ℕ
with_time column so_far row = min (so_far + amount (cell_at row column)) MOST_AMOUNT

-- the time of a column in all weeks, in thousandths of a minute
abbrev pub total : ℕ → List RowView → ℕ
total column rows = fold (with_time column) 0 rows

-- the share of the capacity of all weeks that the loads of all weeks take
abbrev pub share_of_all : List RowView → Option ℕ
share_of_all rows = share (total 2 rows) (total 3 rows)

-- the time over for the capacity, in a very small unit; without capacity more than any other
abbrev pub rate : ℕ → ℕ → ℕ
rate over capacity = if capacity == 0 then 2 ^ 128 - 1 else over * RATE_UNIT / capacity

-- that of all weeks of a work centre
abbrev pub rate_of : List RowView → ℕ
rate_of rows = rate (total 4 rows) (total 3 rows)

-- a number that falls as more is over
abbrev pub falling_rate : List RowView → ℕ
falling_rate rows = 2 ^ 128 - 1 - rate_of rows

-- the weeks of a work centre, by a row of it
abbrev pub weeks_of : List RowView → RowView → List RowView
weeks_of loads leader = rows_named (cell_at leader 0) loads

-- the work centres that are over their capacity in some week, each by its weeks
abbrev pub overloaded : List RowView → List (List RowView)
overloaded loads = map (weeks_of loads) (leaders [] (overloads loads))

-- the same, by the time over for the capacity of all weeks, the most first
abbrev pub overloaded_first : List RowView → List (List RowView)
overloaded_first loads = sorted_by falling_rate (overloaded loads)

-- the name of a work centre
abbrev pub name_of : List RowView → List ℕ
name_of [] = []
name_of (load ∷ loads) = cell_at load 0

-- the first of these weeks, as it is drawn
abbrev pub first_share : List RowView → RowView
first_share [] = record { section = s.Run; cells = [] }
first_share (load ∷ loads) = share_row load

-- the week of a work centre with the greatest share, as it is drawn
abbrev pub worst_week : List RowView → RowView
worst_week rows = first_share (sorted_by falling_share (overloads rows))

-- a share in words, given its digits, and its sign
abbrev pub share_words : Option ℕ → List ℕ → List ℕ
share_words None digits = codes "no capacity"
share_words (Some percent) digits = digits

abbrev pub share_sign : Option ℕ → List ℕ
share_sign None = []
share_sign (Some percent) = codes " %"

-- what stands of a work centre: its name; in how many weeks it is over its capacity, and of how many; the share of the worst
-- week, its sign and that week; the share of all weeks, and its sign
abbrev pub drawn_overloaded : List ℕ → List ℕ → List ℕ → RowView → List ℕ → List ℕ → RowView
drawn_overloaded name over weeks worst words sign = record {
  section = s.Run;
  cells = name ∷ over ∷ weeks ∷ cell_at worst 2 ∷ cell_at worst 3 ∷ cell_at worst 1 ∷ words ∷ sign ∷ [];
}

abbrev pub overloaded_row : List RowView → RowView
overloaded_row rows =
    drawn_overloaded (name_of rows) (decimal (count_by is_over rows)) (decimal (length rows)) (worst_week rows) (share_words (share_of_all rows) (decimal (unwrap_or (share_of_all rows) 0))) (share_sign (share_of_all rows))

-- a work centre that is over its capacity, with its picture
unfoldable pub overloaded_html : Option Facts → List RowView → List ℕ
overloaded_html tables rows =
    dated_html tables overloaded_line (overloaded_row rows)
    ++ picture_html (centre_frame (name_of rows) rows) (map share_row rows)

-- the most overloaded work centres, if any is over its capacity
unfoldable pub most_overloaded : Option Facts → List (List RowView) → List ℕ
most_overloaded tables centres =
    if length centres == 0 then [] else overloaded_open ++ (flat_map (overloaded_html tables) (take MOST_OVERLOADED centres) ++ section_end)
