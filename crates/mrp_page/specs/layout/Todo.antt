-- The parts of a page: the section *To do*.
use Rattle.std.specs.Prelude.{ℕ, List, [], ◌∷◌, codes}
use Rattle.mrp_page.specs.Template.{Drawn, Mark, Number, Text, Week, Where}

-- what stands in *To do* if the plan has no message
unfoldable pub nothing_to_do : List ℕ
nothing_to_do = codes "<p>Nothing to do: the plan has no message.</p>\n"

-- what messages are
unfoldable pub todo_note : List ℕ
todo_note = codes "<p class=note>Each message speaks of the plan as it stands: change what can be changed, and plan again.</p>\n"

-- what stands in place of the cells of an order that is not kept
unfoldable pub order_unknown : List ℕ
order_unknown = codes "<td></td><td></td><td></td>"

-- what the table of a kind of messages begins with
unfoldable pub late_front : List ℕ
late_front = codes "<table class=\"list even\" aria-label=\"Past due\"><thead><tr><th class=t scope=col>Item</th><th class=t scope=col>Order</th><th scope=col>Pieces</th><th scope=col>Pieces to start</th><th scope=col>Due week</th><th scope=col>Weeks late</th></tr></thead>\n<tbody>"

-- what the table of a kind of messages begins with
unfoldable pub release_front : List ℕ
release_front = codes "<table class=\"list even\" aria-label=\"Release\"><thead><tr><th class=t scope=col>Item</th><th class=t scope=col>Order</th><th scope=col>Pieces</th><th scope=col>Pieces to start</th><th scope=col>Due week</th><td></td></tr></thead>\n<tbody>"

-- what the table of a kind of messages begins with
unfoldable pub in_front : List ℕ
in_front = codes "<table class=\"list even\" aria-label=\"Reschedule in\"><thead><tr><th class=t scope=col>Item</th><th class=t scope=col>Order</th><th scope=col>Pieces</th><td></td><th scope=col>Week</th><th scope=col>To week</th></tr></thead>\n<tbody>"

-- what the table of a kind of messages begins with
unfoldable pub out_front : List ℕ
out_front = codes "<table class=\"list even\" aria-label=\"Reschedule out\"><thead><tr><th class=t scope=col>Item</th><th class=t scope=col>Order</th><th scope=col>Pieces</th><td></td><th scope=col>Week</th><th scope=col>To week</th></tr></thead>\n<tbody>"

-- what the table of a kind of messages begins with
unfoldable pub cancel_front : List ℕ
cancel_front = codes "<table class=\"list even\" aria-label=\"Cancel\"><thead><tr><th class=t scope=col>Item</th><th class=t scope=col>Order</th><th scope=col>Pieces</th><td></td><th scope=col>Week</th><td></td></tr></thead>\n<tbody>"

-- what the table of a kind of messages begins with
unfoldable pub other_front : List ℕ
other_front = codes "<table class=\"list even\" aria-label=\"Other messages\"><thead><tr><th class=t scope=col>Item</th><th class=t scope=col>Order</th><th scope=col>Pieces</th><td></td><th scope=col>Week</th><th scope=col>Message</th></tr></thead>\n<tbody>"

-- what the section *To do* begins with
unfoldable pub todo_open : List ℕ
todo_open = codes "<section id=todo>\n<h2>To do</h2>\n"

-- the pieces, the start and the due week of an order
unfoldable pub order_start : List Drawn
order_start =
    Number 4 ∷
    Number 5 ∷
    Week 3 ∷ []

-- the pieces and the due week of an order
unfoldable pub order_week : List Drawn
order_week =
    Number 4 ∷
    Mark (codes "<td></td>") ∷
    Week 3 ∷ []

-- how late an order is
unfoldable pub weeks_late : List Drawn
weeks_late =
    Mark (codes "<td class=bad>") ∷
    Text 4 ∷
    Mark (codes "</td></tr>\n") ∷ []

-- the week that an order should be due in
unfoldable pub to_week : List Drawn
to_week =
    Week 4 ∷
    Mark (codes "</tr>\n") ∷ []

-- what the row of a message without a value ends with
unfoldable pub row_end : List Drawn
row_end =
    Mark (codes "<td></td></tr>\n") ∷ []

-- the word and the value of a message
unfoldable pub other_cells : List Drawn
other_cells =
    Mark (codes "<td>") ∷
    Text 3 ∷
    Mark (codes " ") ∷
    Text 4 ∷
    Mark (codes "</td></tr>\n") ∷ []

-- what the fold of a kind of messages begins with: how many they are
unfoldable pub late_open : List Drawn
late_open =
    Mark (codes "<details class=\"kind late\" id=late open><summary><b>Past due: ") ∷
    Text 0 ∷
    Mark (codes "</b> <small>release now and expedite; from version 2 on, late by shop days</small></summary>\n") ∷ []

-- what the fold of a kind of messages begins with: how many they are
unfoldable pub release_open : List Drawn
release_open =
    Mark (codes "<details class=\"kind release\" id=release open><summary><b>Release: ") ∷
    Text 0 ∷
    Mark (codes "</b> <small>release this week</small></summary>\n") ∷ []

-- what the fold of a kind of messages begins with: how many they are
unfoldable pub in_open : List Drawn
in_open =
    Mark (codes "<details class=\"kind in\" id=in") ∷
    Where 1 (codes "open") (codes " open") ∷
    Mark (codes "><summary><b>Reschedule in: ") ∷
    Text 0 ∷
    Mark (codes "</b> <small>needed before its week</small></summary>\n") ∷ []

-- what the fold of a kind of messages begins with: how many they are
unfoldable pub out_open : List Drawn
out_open =
    Mark (codes "<details class=\"kind out\" id=out") ∷
    Where 1 (codes "open") (codes " open") ∷
    Mark (codes "><summary><b>Reschedule out: ") ∷
    Text 0 ∷
    Mark (codes "</b> <small>needed only after its week</small></summary>\n") ∷ []

-- what the fold of a kind of messages begins with: how many they are
unfoldable pub cancel_open : List Drawn
cancel_open =
    Mark (codes "<details class=\"kind cancel\" id=cancel") ∷
    Where 1 (codes "open") (codes " open") ∷
    Mark (codes "><summary><b>Cancel: ") ∷
    Text 0 ∷
    Mark (codes "</b> <small>not needed within these weeks</small></summary>\n") ∷ []

-- what the fold of a kind of messages begins with: how many they are
unfoldable pub other_open : List Drawn
other_open =
    Mark (codes "<details class=\"kind other\" id=other") ∷
    Where 1 (codes "open") (codes " open") ∷
    Mark (codes "><summary><b>Other messages: ") ∷
    Text 0 ∷
    Mark (codes "</b> <small>with words of their own</small></summary>\n") ∷ []

-- what comes between the item of a message and its supply
unfoldable pub task_middle : List ℕ
task_middle = codes "</th><td class=t>"

-- the supply that a message is about
unfoldable pub task_supply : List Drawn
task_supply =
    Text 1 ∷
    Mark (codes " ") ∷
    Text 2 ∷ []

-- the pieces of an open order
unfoldable pub open_pieces : List Drawn
open_pieces =
    Number 0 ∷
    Mark (codes "<td></td><td></td>") ∷ []

-- the pieces and the week of an open order, by its receipt
unfoldable pub open_receipt : List Drawn
open_receipt =
    Number 0 ∷
    Mark (codes "<td></td>") ∷
    Week 1 ∷ []
