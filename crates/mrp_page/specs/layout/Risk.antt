-- The parts of a page: the section *Promises at risk*.
use Rattle.std.specs.Prelude.{ℕ, List, [], ◌∷◌, codes}
use Rattle.mrp_page.specs.Template.{Drawn, Mark, Number, Text, Week}

-- what the section *Promises at risk* begins with
unfoldable pub risk_open : List ℕ
risk_open = codes "<section id=risk>\n<h2>Promises at risk</h2>\n"

-- what stands above the bookings at risk
unfoldable pub risk_note : List ℕ
risk_note = codes "<p class=note>Bookings that wait, through any number of orders, for an order past due; with the latest such order.</p>\n"

-- what stands there if no booking is at risk
unfoldable pub none_at_risk : List ℕ
none_at_risk = codes "<p>None: no booking waits for an order past due.</p>\n"

-- what stands there if not all orders and pegs are kept
unfoldable pub risks_unknown : List ℕ
risks_unknown = codes "<p>Not known: this takes all orders and pegs of the day, and not all are on this page.</p>\n"

-- what the table of the bookings at risk begins with
unfoldable pub risk_front : List ℕ
risk_front = codes "<table class=\"list even\" aria-label=\"Promises at risk\"><thead><tr><th class=t scope=col>Item</th><th scope=col>Booking</th><th scope=col>Pieces</th><th scope=col>Week</th><th class=t scope=col>Latest order</th><th scope=col>Weeks late</th></tr></thead>\n<tbody>"

-- what comes between the item of a booking and its number
unfoldable pub risk_booking : List ℕ
risk_booking = codes "</th><td>"

-- the pieces and the week of a booking at risk
unfoldable pub risk_middle : List Drawn
risk_middle =
    Mark (codes "</td>") ∷
    Number 3 ∷
    Week 1 ∷
    Mark (codes "<td class=t>") ∷ []

-- the late order that a booking waits for
unfoldable pub risk_order : List Drawn
risk_order =
    Text 5 ∷
    Mark (codes " ") ∷
    Text 7 ∷
    Mark (codes " ") ∷
    Text 6 ∷ []
