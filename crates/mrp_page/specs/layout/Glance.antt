-- The parts of a page: what stands at a glance.
use Rattle.std.specs.Prelude.{ℕ, List, [], ◌∷◌, codes}
use Rattle.mrp_page.specs.Template.{Date, Drawn, Mark, Number, Text, Week, Where}

-- what the section *At a glance* begins with
unfoldable pub glance_open : List ℕ
glance_open = codes "<section id=glance>\n<h2>At a glance</h2>\n"

-- what the section *Runs out first* begins with
unfoldable pub out_first_open : List ℕ
out_first_open = codes "<section id=out-first>\n<h3>Runs out first</h3>\n"

-- what stands there if no item runs out
unfoldable pub none_out : List ℕ
none_out = codes "<p>No item: stock and the orders that are placed are enough.</p>\n"

-- what stands above the items that run out first: how many there are
unfoldable pub outs_note : List Drawn
outs_note =
    Mark (codes "<p class=note>The first week in which stock and the orders that are placed are not enough, what is left then without planned orders, and how late the first of these is. Items that run out within these weeks: ") ∷
    Text 0 ∷
    Mark (codes ".</p>\n") ∷ []

-- what the table of the items that run out first begins with
unfoldable pub outs_front : List ℕ
outs_front = codes "<table class=\"list even waits\" aria-label=\"Runs out first\"><thead><tr><th class=t scope=col>Item</th><th scope=col>Week</th><th scope=col>Left</th>"

-- what its head has besides if the tables are given
unfoldable pub outs_safety : List ℕ
outs_safety = codes "<th scope=col>Safety stock</th>"

-- what its head ends with
unfoldable pub outs_head_end : List ℕ
outs_head_end = codes "<th scope=col>Weeks late</th></tr></thead>\n<tbody>"

-- an item that runs out, after its name: the week, and what is left
unfoldable pub out_cells : List Drawn
out_cells =
    Mark (codes "</th>") ∷
    Week 1 ∷
    Mark (codes "<td>") ∷
    Text 2 ∷
    Text 3 ∷
    Mark (codes "</td>") ∷ []

-- how late the first planned order of such an item is
unfoldable pub out_late : List Drawn
out_late =
    Number 4 ∷
    Mark (codes "</tr>\n") ∷ []

-- what the most overloaded work centres begin with
unfoldable pub overloaded_open : List ℕ
overloaded_open = codes "<section id=overloaded>\n<h3>Most overloaded work centres</h3>\n"

-- what is said of such a work centre
unfoldable pub overloaded_line : List Drawn
overloaded_line =
    Mark (codes "<p><a href=\"#c-") ∷
    Text 0 ∷
    Mark (codes "\">") ∷
    Text 0 ∷
    Mark (codes "</a>: over in ") ∷
    Text 1 ∷
    Mark (codes " of ") ∷
    Text 2 ∷
    Mark (codes " weeks, ") ∷
    Where 4 (codes " %") (codes "at most ") ∷
    Mark (codes "<b class=bad>") ∷
    Text 3 ∷
    Text 4 ∷
    Mark (codes "</b> in week ") ∷
    Text 5 ∷
    Date 5 ∷
    Mark (codes "; <span class=n>") ∷
    Text 6 ∷
    Text 7 ∷
    Mark (codes "</span> over all weeks</p>\n") ∷ []
