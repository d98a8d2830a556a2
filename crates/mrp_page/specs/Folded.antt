-- Lists that show their first rows, and fold the others.
use Rattle.std.specs.Prelude.{ℕ, List, [], ◌++◌, codes, drop, flat_map, length, take, if◌then◌else◌}
use Rattle.mrp_page.specs.declared.limits.TheConstants.{MOST_LINES}
use Rattle.mrp_page.specs.Draw.{has_none, more_html}
use Rattle.mrp_page.specs.Frame.{count_row}
use Rattle.mrp_page.specs.layout.Lists.{rest_end, rest_open}
use Rattle.mrp_page.specs.Row.{RowView}
use Rattle.mrp_page.specs.Template.{row_html}

-- what a list draws its rows with: a row as it is drawn, and the markup that the rows stand between
pub record Listing : Type 0 where
  pub line : RowView → List ℕ
  pub front : List ℕ
  pub back : List ℕ

-- rows of a list; nothing if there are none
unfoldable pub listed_html : Listing → List RowView → List ℕ
listed_html listing rows =
    if has_none rows then [] else listing.front ++ (flat_map listing.line rows ++ listing.back)

-- rows that are folded behind their number; nothing if there are none
unfoldable pub hidden_html : Listing → List RowView → List ℕ
hidden_html listing rows =
    if has_none rows then [] else row_html rest_open (count_row (length rows) [] []) ++ (listed_html listing rows ++ rest_end)

-- the first rows, and the others folded
unfoldable pub folded_html : Listing → ℕ → List RowView → List ℕ
folded_html listing most rows = listed_html listing (take most rows) ++ hidden_html listing (drop most rows)

-- the same of a long list, whose rows past a limit are counted
unfoldable pub capped_html : Listing → ℕ → List RowView → List ℕ
capped_html listing most rows = folded_html listing most (take MOST_LINES rows) ++ more_html (length (drop MOST_LINES rows)) (codes "is") (codes "are")
