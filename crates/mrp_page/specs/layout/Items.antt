-- The parts of a page: the items, their orders and pegs.
use Rattle.std.specs.Prelude.{ℕ, List, [], ◌∷◌, codes}
use Rattle.mrp_page.specs.Template.{Drawn, Mark, Number, Text, Week, Where}

-- what a link to an order begins with, before its number
unfoldable pub order_address : List ℕ
order_address = codes "<a href=\"#o-"

-- the heading of an item, with its name
unfoldable pub item_head : List Drawn
item_head =
    Mark (codes "<section class=item id=\"i-") ∷
    Text 0 ∷
    Mark (codes "\">\n<h2>") ∷
    Text 0 ∷
    Mark (codes "<a href=\"#items\">all items</a><a href=\"#todo\">to do</a></h2>\n") ∷ []

-- what the index of the items begins with
unfoldable pub items_open : List ℕ
items_open = codes "<section id=items>\n<h2>Items</h2>\n<ul class=index>\n"

-- what the index of the items ends with
unfoldable pub items_end : List ℕ
items_end = codes "</ul>\n</section>\n"

-- how many messages an item has
unfoldable pub index_count : List Drawn
index_count =
    Mark (codes " <small>") ∷
    Text 0 ∷
    Mark (codes "</small>") ∷ []

-- what the orders and pegs of an item are folded behind
unfoldable pub lists_open : List ℕ
lists_open = codes "<details><summary>Orders and pegs</summary>\n"

-- what the orders of an item begin with
unfoldable pub orders_open : List ℕ
orders_open = codes "<div class=scroll tabindex=0 role=region aria-label=Orders><table class=list>\n<caption><span>Firm and planned orders</span></caption>\n<thead><tr><th class=t scope=col>Order</th><th class=t scope=col>Kind</th><th scope=col>Due week</th><th scope=col>Quantity</th><th scope=col>Pieces to start</th><th scope=col>Release week</th><th scope=col>Weeks late (shop days from version 2 on)</th></tr></thead>\n<tbody>"

-- what the pegs of an item begin with
unfoldable pub pegs_open : List ℕ
pegs_open = codes "<div class=scroll tabindex=0 role=region aria-label=\"Where it goes\"><table class=list>\n<caption><span>Where it goes: which supply serves which requirement</span></caption>\n<thead><tr><th class=t scope=col>Supply</th><th scope=col>Pieces</th><th class=t scope=col>Requirement</th><th scope=col>Week</th></tr></thead>\n<tbody>"

-- the supply of a peg
unfoldable pub peg_supply : List Drawn
peg_supply =
    Text 6 ∷
    Mark (codes " ") ∷
    Text 7 ∷ []

-- the pieces of a peg, before its requirement
unfoldable pub peg_middle : List Drawn
peg_middle =
    Mark (codes "</th>") ∷
    Number 8 ∷
    Mark (codes "<td class=t>") ∷ []

-- what stands before the number of a booking
unfoldable pub peg_booking : List ℕ
peg_booking = codes "booking "

-- the order of a parent that a peg is for
unfoldable pub peg_parent : List Drawn
peg_parent =
    Mark (codes "order ") ∷
    Text 3 ∷
    Mark (codes " of ") ∷
    Text 4 ∷ []

-- any other requirement of a peg
unfoldable pub peg_need : List Drawn
peg_need =
    Where 2 (codes "forecast") (codes "forecast") ∷
    Where 2 (codes "service") (codes "service part demand, master record ") ∷
    Where 2 (codes "surplus") (codes "left over") ∷
    Text 3 ∷ []

-- the week of a peg
unfoldable pub peg_back : List Drawn
peg_back =
    Where 2 (codes "parent") (codes ", bill line ") ∷
    Text 5 ∷
    Mark (codes "</td>") ∷
    Week 1 ∷
    Mark (codes "</tr>\n") ∷ []

-- the order that waits for a component
unfoldable pub wait_order : List Drawn
wait_order =
    Mark (codes "order ") ∷
    Text 3 ∷ []

-- what comes between a component and its supply
unfoldable pub wait_supply : List ℕ
wait_supply = codes "</td><td class=t>"

-- how late the supply of a component is
unfoldable pub wait_late : List Drawn
wait_late =
    Mark (codes "</td>") ∷
    Number 7 ∷
    Mark (codes "</tr>\n") ∷ []

-- what a component ends with whose supply is no firm or planned order
unfoldable pub wait_end : List ℕ
wait_end = codes "</td><td></td></tr>\n"

-- what the components that an item's orders wait for begin with
unfoldable pub waits_open : List ℕ
waits_open = codes "<div class=scroll tabindex=0 role=region aria-label=\"What its orders wait for\"><table class=\"list waits\">\n<caption><span>What its orders wait for</span></caption>\n<thead><tr><th class=t scope=col>Order</th><th scope=col>Pieces</th><th class=t scope=col>Component</th><th class=t scope=col>Supply</th><th scope=col>Weeks late</th></tr></thead>\n<tbody>"

-- what the tables say of an item: its class, lead time and lot rule
unfoldable pub facts_open : List Drawn
facts_open =
    Mark (codes "<p class=note>") ∷
    Where 0 (codes "master") (codes "Master item") ∷
    Where 0 (codes "part") (codes "Part") ∷
    Where 2 (codes "weeks") (codes "; lead time in weeks: ") ∷
    Where 2 (codes "days") (codes "; lead time in shop days: ") ∷
    Text 1 ∷
    Where 3 (codes "lfl") (codes "; lot for lot") ∷
    Where 3 (codes "fixed") (codes "; fixed order quantity: ") ∷
    Where 3 (codes "period") (codes "; period order quantity, weeks: ") ∷
    Text 4 ∷ []

-- an item's minimum order quantity and order multiple
unfoldable pub facts_steps : List Drawn
facts_steps =
    Mark (codes "; minimum: ") ∷
    Text 5 ∷
    Mark (codes "; multiple: ") ∷
    Text 6 ∷ []

-- an item's scrap, safety stock and stock on hand
unfoldable pub facts_end : List Drawn
facts_end =
    Mark (codes "; scrap: ") ∷
    Text 7 ∷
    Mark (codes ".") ∷
    Text 8 ∷
    Mark (codes "&nbsp;%; safety stock: ") ∷
    Text 9 ∷
    Mark (codes "; on hand: ") ∷
    Text 10 ∷
    Mark (codes "</p>\n") ∷ []

-- an order
unfoldable pub order : List Drawn
order =
    Mark (codes "<tr id=\"o-") ∷
    Text 1 ∷
    Mark (codes "-") ∷
    Text 0 ∷
    Mark (codes "\">") ∷
    Mark (codes "<th scope=row>") ∷
    Text 1 ∷
    Mark (codes "</th><td class=t>") ∷
    Text 2 ∷
    Mark (codes "</td>") ∷
    Week 3 ∷
    Number 4 ∷
    Number 5 ∷
    Week 6 ∷
    Number 7 ∷
    Mark (codes "</tr>\n") ∷ []
