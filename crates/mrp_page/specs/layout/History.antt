-- The parts of a page: the history.
use Rattle.std.specs.Prelude.{ℕ, List, [], ◌∷◌, codes}
use Rattle.mrp_page.specs.Template.{Drawn, Mark, Number, Text, Week}

-- an entry of the history
unfoldable pub entry : List Drawn
entry =
    Mark (codes "<tr id=\"e") ∷
    Text 0 ∷
    Mark (codes "\"><th scope=row>") ∷
    Text 0 ∷
    Mark (codes "</th>") ∷
    Number 1 ∷
    Mark (codes "<td class=t>") ∷
    Text 2 ∷
    Mark (codes "</td><td class=t>") ∷
    Text 3 ∷
    Mark (codes "</td>") ∷
    Week 4 ∷
    Number 5 ∷
    Number 6 ∷
    Mark (codes "<td class=t>") ∷
    Text 7 ∷
    Mark (codes "</td>") ∷
    Number 8 ∷
    Mark (codes "</tr>\n") ∷ []

-- what the history begins with
unfoldable pub history_open : List ℕ
history_open = codes "<section id=history>\n<details><summary>History of the order book</summary><div class=scroll tabindex=0 role=region aria-label=\"History of the order book\"><table class=list>\n<caption><span>The calls of the desks and their replies</span></caption>\n<thead><tr><th class=t scope=col>Entry</th><th scope=col>Desk</th><th class=t scope=col>Call</th><th class=t scope=col>Item</th><th scope=col>Week</th><th scope=col>Quantity</th><th scope=col>Number</th><th class=t scope=col>Reply</th><th scope=col>Value</th></tr></thead>\n<tbody>"

-- what it ends with
unfoldable pub history_end : List ℕ
history_end = codes "</details>\n</section>\n"
