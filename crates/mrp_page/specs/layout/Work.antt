-- The parts of a page: the operations behind an overload.
use Rattle.std.specs.Prelude.{ℕ, List, [], ◌∷◌, codes}
use Rattle.mrp_page.specs.Template.{Drawn, Mark, Number, Text, Week}

-- what stands above the overloads if the tables are given
unfoldable pub work_note : List ℕ
work_note = codes "<p class=note>Behind each of the first 100 stand the operations that load it, those first that take the most time.</p>\n"

-- what the table of these operations begins with
unfoldable pub work_head : List Drawn
work_head =
    Mark (codes "<div class=scroll tabindex=0 role=region aria-label=\"What loads ") ∷
    Text 0 ∷
    Mark (codes " in week ") ∷
    Text 1 ∷
    Mark (codes "\"><table class=\"list waits\" aria-label=\"Operations at ") ∷
    Text 0 ∷
    Mark (codes " in week ") ∷
    Text 1 ∷
    Mark (codes "\"><thead><tr><th class=t scope=col>Order</th><th scope=col>Operation</th><th scope=col>Minutes</th><th scope=col>Share of capacity</th><th scope=col>Pieces to start</th><th scope=col>Due week</th><th scope=col>Weeks late</th></tr></thead>\n<tbody>") ∷ []

-- the order of an operation
unfoldable pub work_name : List Drawn
work_name =
    Text 0 ∷
    Mark (codes " ") ∷
    Text 2 ∷
    Mark (codes " ") ∷
    Text 1 ∷ []

-- the number of an operation
unfoldable pub work_operation : List Drawn
work_operation =
    Mark (codes "</th>") ∷
    Number 0 ∷ []

-- the share of a capacity that a time takes
unfoldable pub work_share : List Drawn
work_share =
    Mark (codes "<td>") ∷
    Text 0 ∷
    Text 1 ∷
    Mark (codes "</td>") ∷ []

-- the start, the due week and the lateness of the order of an operation
unfoldable pub work_back : List Drawn
work_back =
    Number 5 ∷
    Week 3 ∷
    Number 7 ∷
    Mark (codes "</tr>\n") ∷ []

-- how many more operations there are
unfoldable pub work_rest : List Drawn
work_rest =
    Mark (codes "<tr><th scope=row>and ") ∷
    Text 0 ∷
    Mark (codes " more</th><td></td>") ∷ []

-- what stands in place of an operation for what else a load has
unfoldable pub work_other : List ℕ
work_other = codes "<tr><th scope=row>the rest of this load</th><td></td>"

-- what stands in place of an order
unfoldable pub work_blank : List ℕ
work_blank = codes "<td></td><td></td><td class=z></td></tr>\n"

-- what stands in its place if the operations take more time than the load has
unfoldable pub work_unknown : List ℕ
work_unknown = codes "<p class=note>By the routings of these tables the orders take more time than this load: they are not those of the day.</p>\n"

-- what an overload ends with that has its operations behind it
unfoldable pub work_end : List ℕ
work_end = codes "</details></li>\n"

-- what an overload begins with that has its operations behind it
unfoldable pub work_open : List ℕ
work_open = codes "<li><details><summary>"

-- how many operations load it
unfoldable pub work_count : List Drawn
work_count =
    Mark (codes "; ") ∷
    Text 0 ∷
    Mark (codes " ") ∷
    Text 1 ∷
    Mark (codes "</summary>\n") ∷ []
