-- The parts of a page: the head of a page and its end.
use Rattle.std.specs.Prelude.{ℕ, List, [], ◌∷◌, codes}
use Rattle.mrp_page.specs.Template.{Drawn, Mark, Text, Where}
use Rattle.mrp_page.specs.declared.style.TheConstants.{STYLE}

-- the style sheet
unfoldable pub style : List ℕ
style = STYLE.now

-- what comes before the style sheet: the title
unfoldable pub page_top : List Drawn
page_top =
    Mark (codes "<!doctype html>\n<html lang=\"en\">\n<head>\n<meta charset=\"utf-8\">\n<meta name=\"viewport\" content=\"width=device-width, initial-scale=1\">\n<title>") ∷
    Text 0 ∷
    Mark (codes "</title>\n<style>\n") ∷ []

-- what a page ends with
unfoldable pub page_end : List ℕ
page_end = codes "</main>\n</body>\n</html>\n"

-- what the counts of a page stand in
unfoldable pub summary_open : List ℕ
summary_open = codes "<p class=sum>"

-- a count that leads to a part of the page
unfoldable pub summary_tile : List Drawn
summary_tile =
    Mark (codes "<a class=\"") ∷
    Text 1 ∷
    Mark (codes "\" href=\"#") ∷
    Text 2 ∷
    Mark (codes "\"><b>") ∷
    Text 0 ∷
    Mark (codes "</b>") ∷
    Text 3 ∷
    Mark (codes "</a>") ∷ []

-- how many of all work centres are over their capacity
unfoldable pub centre_tile : List Drawn
centre_tile =
    Mark (codes "<a class=\"") ∷
    Text 1 ∷
    Mark (codes "\" href=\"#") ∷
    Text 2 ∷
    Mark (codes "\"><b>") ∷
    Text 0 ∷
    Mark (codes "</b>of ") ∷
    Text 4 ∷
    Mark (codes " centres over capacity</a>") ∷ []

-- the head of a page: the title, the entry that the run plans from, the bookings that stand there, the weeks
unfoldable pub page_head : List Drawn
page_head =
    Mark (codes "</style>\n</head>\n<body style=\"--weeks:") ∷
    Text 3 ∷
    Mark (codes "\">\n<header>\n<h1>") ∷
    Text 0 ∷
    Mark (codes "</h1>\n<p>Plan at entry <b>") ∷
    Text 1 ∷
    Mark (codes "</b> of the history; bookings standing: <b>") ∷
    Text 2 ∷
    Mark (codes "</b>; weeks: <b>") ∷
    Text 3 ∷
    Mark (codes "</b>") ∷ []

-- what the date of the first week begins with
unfoldable pub start_open : List ℕ
start_open = codes " from <b>"

-- what it ends with
unfoldable pub start_end : List ℕ
start_end = codes "</b>"

-- the rest of the head of a page: the items
unfoldable pub page_items : List Drawn
page_items =
    Mark (codes "; items: <b>") ∷
    Text 4 ∷
    Mark (codes "</b>") ∷
    Where 4 (codes "0") (codes " (the plan has none, or none that was asked for)") ∷ []

-- how many items are on the page
unfoldable pub page_shown : List Drawn
page_shown =
    Mark (codes ", on this page: <b>") ∷
    Text 0 ∷
    Mark (codes "</b>") ∷ []

-- what the first lines of a page end with
unfoldable pub head_end : List ℕ
head_end = codes "</p>\n"

-- what comes between the head of a page and its parts: links to these
unfoldable pub main_open : List ℕ
main_open = codes "</p>\n</header>\n<nav><a href=\"#unkept\">Not promised</a><a href=\"#risk\">Promises at risk</a><a href=\"#todo\">To do</a><a href=\"#glance\">At a glance</a><a href=\"#centres\">Work centres</a><a href=\"#items\">Items</a><a href=\"#history\">History</a></nav>\n<main>\n"
