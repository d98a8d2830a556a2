-- Loads of work centres, as shares of their capacities.
use Rattle.std.specs.Prelude.{ℕ, Bool, ◌*◌, ◌-◌, ◌^◌, ◌==◌, min, nat_le, List, [], ◌∷◌, ◌++◌, Option, Some, None, codes, decimal, drop, unwrap_or, if◌then◌else◌}
use Rattle.std.specs.Int.{div_ceil}
use Rattle.std.specs.List.{before_first, position_or_len}
use Rattle.mrp_page.specs.Amounts.{amount}
use Rattle.mrp_page.specs.Escaped.{escaped}
use Rattle.mrp_page.specs.Html.{is_zero}
use Rattle.mrp_page.specs.layout.Lists.{title_end, title_open}
use Rattle.mrp_page.specs.Row.{Cells, RowView, cell_at, same_text}
use Rattle.mrp_page.specs.Rows.{rank}
use Rattle.mrp_page.specs.Sorted.{sorted_by}
use Rattle.mrp_page.specs.Summary.{overloads}
use Rattle.mrp_day.specs.declared.section.Section.TheVariants as s

-- the share of a capacity that a load takes, in per cent, rounded up; none if there is load and no capacity
abbrev pub share : ℕ → ℕ → Option ℕ
share load capacity =
    if capacity == 0 then (if load == 0 then Some 0 else None)
    else Some (div_ceil (load * 100) capacity)

-- the share of a week of a work centre
abbrev pub share_of : RowView → Option ℕ
share_of load = share (amount (cell_at load 2)) (amount (cell_at load 3))

abbrev pub is_point : ℕ → Bool
is_point byte = byte == 46

-- minutes before their decimal point, and from it on
abbrev pub before_point : List ℕ → List ℕ
before_point minutes = before_first is_point minutes

abbrev pub from_point : List ℕ → List ℕ
from_point minutes = drop (position_or_len is_point minutes) minutes

-- minutes without decimals; those below one minute as they are
abbrev pub whole : List ℕ → List ℕ
whole minutes = if same_text (before_point minutes) (codes "0") then minutes else before_point minutes

-- a share that is shown only if it is not 0
abbrev pub shown_share : ℕ → List ℕ → List ℕ
shown_share share percent = if share == 0 then [] else percent

-- the height of a bar up to the capacity, if its share is more than that
abbrev pub hot_height : ℕ → List ℕ
hot_height share = if nat_le share 100 then codes "0" else codes "100"

-- the height of the mark of a bar that is cut
abbrev pub cut_height : ℕ → List ℕ
cut_height share = if nat_le share 200 then codes "0" else codes "20"

-- a mark of shares above 100
abbrev pub share_mark : ℕ → List ℕ
share_mark share = if nat_le share 100 then [] else codes "bad"

-- how a week with this share is drawn, given the texts of the share and of the heights of its bar
abbrev pub drawn_share : RowView → List ℕ → List ℕ → List ℕ → List ℕ → List ℕ → List ℕ → List ℕ → RowView
drawn_share load percent shown low hot above cut mark = record {
  section = s.Run;
  cells = cell_at load 0 ∷ cell_at load 1 ∷ percent ∷ codes " %" ∷ shown ∷ low ∷ hot ∷ above ∷ cut ∷ whole (cell_at load 4) ∷ mark ∷ cell_at load 4 ∷ [];
}

-- how a week of a work centre is drawn: its centre, its week, its share and the sign of that, the share if it is not 0, the
-- heights of its bar up to 100 if that is all of it, else up to 100, and from there to 200, that of the mark of a bar which is
-- cut, the whole minutes that are over, a mark if the share is above 100, and all minutes that are over
abbrev pub share_cells : RowView → Option ℕ → Cells
share_cells load None =
    cell_at load 0 ∷ cell_at load 1 ∷ codes "no capacity" ∷ [] ∷ codes "none" ∷ codes "0" ∷ codes "100" ∷ codes "100" ∷ codes "20" ∷ whole (cell_at load 4) ∷ codes "bad" ∷ cell_at load 4 ∷ []
share_cells load (Some share) =
    cell_at load 0 ∷ cell_at load 1 ∷ decimal share ∷ codes " %" ∷ shown_share share (decimal share) ∷ decimal (if nat_le share 100 then share else 0)
    ∷ hot_height share ∷ decimal (min share 200 - 100) ∷ cut_height share ∷ whole (cell_at load 4)
    ∷ share_mark share ∷ cell_at load 4 ∷ []

abbrev pub share_row : RowView → RowView
share_row load = record { section = s.Run; cells = share_cells load (share_of load) }

-- a number that falls as the share rises; no capacity is more than any share
abbrev pub falling_share : RowView → ℕ
falling_share load = 2 ^ 64 - 1 - unwrap_or (share_of load) (2 ^ 64 - 1)

-- the number of a row's week
abbrev pub week_rank : RowView → ℕ
week_rank row = rank (cell_at row 1)

-- the weeks of work centres that are over their capacity: by week, and in a week by their share, the greatest first
abbrev pub overloads_first : List RowView → List RowView
overloads_first loads = sorted_by week_rank (sorted_by falling_share (overloads loads))

-- the decimals of minutes are all 0
unfoldable pub is_whole : List ℕ → Bool
is_whole minutes = same_text (from_point minutes) (codes ".000")

-- the tag before minutes, with all decimals as its title
unfoldable pub titled_tag : List ℕ → List ℕ
titled_tag minutes = title_open ++ (escaped minutes ++ title_end)

-- the tag before minutes, with all decimals as its title if these count
abbrev pub minutes_tag : List ℕ → List ℕ
minutes_tag minutes = if is_whole minutes then codes "<td>" else titled_tag minutes

-- a cell of a table with whole minutes; empty if there are none
abbrev pub minutes_html : List ℕ → List ℕ
minutes_html minutes = if is_zero minutes then codes "<td></td>" else minutes_tag minutes ++ (escaped (whole minutes) ++ codes "</td>")

-- the minutes in a column
abbrev pub minutes_at : ℕ → RowView → List ℕ
minutes_at column row = minutes_html (cell_at row column)
