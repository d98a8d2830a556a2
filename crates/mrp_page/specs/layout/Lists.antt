-- The parts of a page: what lists and links have in common.
use Rattle.std.specs.Prelude.{ℕ, List, [], ◌∷◌, codes}
use Rattle.mrp_page.specs.Template.{Drawn, Mark, Text}

-- what a link to an item begins with, before the name in its address
unfoldable pub link_open : List ℕ
link_open = codes "<a href=\"#i-"

-- what comes between the address and the name that is shown
unfoldable pub link_middle : List ℕ
link_middle = codes "\">"

-- what a table over the weeks ends with
unfoldable pub grid_end : List ℕ
grid_end = codes "</tbody></table></div>\n"

-- what a section ends with
unfoldable pub section_end : List ℕ
section_end = codes "</section>\n"

-- how many more are not shown, with the number and the words for it
unfoldable pub more : List Drawn
more =
    Mark (codes "<p class=more>and ") ∷
    Text 0 ∷
    Mark (codes " more ") ∷
    Text 1 ∷
    Mark (codes " not shown</p>\n") ∷ []

-- what a list's table ends with
unfoldable pub table_end : List ℕ
table_end = codes "</tbody></table>\n"

-- what the rows that are folded end with
unfoldable pub rest_end : List ℕ
rest_end = codes "</details>\n"

-- what rows that are folded begin with: how many they are
unfoldable pub rest_open : List Drawn
rest_open =
    Mark (codes "<details class=rest><summary>and ") ∷
    Text 0 ∷
    Mark (codes " more</summary>\n") ∷ []

-- what it ends with
unfoldable pub link_end : List ℕ
link_end = codes "</a>"

-- what the tag of a cell begins with that has a title
unfoldable pub title_open : List ℕ
title_open = codes "<td title=\""

-- what it ends with
unfoldable pub title_end : List ℕ
title_end = codes "\">"

-- what a row of a list begins with, before its head
unfoldable pub row_open : List ℕ
row_open = codes "<tr><th scope=row>"

-- what a list of sentences ends with
unfoldable pub list_end : List ℕ
list_end = codes "</ul>\n"

-- what a line of such a list begins with
unfoldable pub bullet_open : List ℕ
bullet_open = codes "<li>"

-- what it ends with
unfoldable pub bullet_end : List ℕ
bullet_end = codes "</li>\n"
