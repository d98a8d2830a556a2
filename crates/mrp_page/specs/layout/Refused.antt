-- The parts of a page: the section *Not promised*.
use Rattle.std.specs.Prelude.{ℕ, List, [], ◌∷◌, codes}
use Rattle.mrp_page.specs.Template.{Drawn, Mark, Number, Text, Week, Where}

-- what a link to an entry of the history begins with, before the number in its address
unfoldable pub entry_link_open : List ℕ
entry_link_open = codes "<a href=\"#e"

-- what the section *Not promised* begins with
unfoldable pub refused_open : List ℕ
refused_open = codes "<section id=unkept>\n<h2>Not promised</h2>\n"

-- what stands there if each call was answered as it asked
unfoldable pub none_refused : List ℕ
none_refused = codes "<p>None: each booking was promised, and each cancellation done.</p>\n"

-- what the table of the calls begins with
unfoldable pub refused_front : List ℕ
refused_front = codes "<table class=\"list even\" aria-label=\"Not promised\"><thead><tr><th class=t scope=col>Item</th><th class=t scope=col>Answer</th><th scope=col>Pieces</th><th scope=col>Week</th><th scope=col>Desk</th><th scope=col>Entry</th></tr></thead>\n<tbody>"

-- what a call ends with
unfoldable pub refused_end : List ℕ
refused_end = codes "</td></tr>\n"

-- how a call was answered, before the entry that it names
unfoldable pub refused_answer : List Drawn
refused_answer =
    Mark (codes "</th><td class=t>") ∷
    Where 7 (codes "short") (codes "<b>short: ") ∷
    Where 7 (codes "not-standing") (codes "not standing: entry ") ∷
    Where 7 (codes "not-yours") (codes "not yours: entry ") ∷
    Text 8 ∷
    Where 7 (codes "short") (codes " available</b>") ∷ []

-- the pieces and the week of a call
unfoldable pub refused_asked : List Drawn
refused_asked =
    Mark (codes "</td>") ∷
    Number 5 ∷
    Week 4 ∷ []

-- the desk of a call
unfoldable pub refused_desk : List Drawn
refused_desk =
    Number 1 ∷
    Mark (codes "<td>") ∷ []
