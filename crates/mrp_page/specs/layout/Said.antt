-- The parts of a page: the messages of an item.
use Rattle.std.specs.Prelude.{ℕ, List, [], ◌∷◌, codes}
use Rattle.mrp_page.specs.Template.{Date, DateWhere, Drawn, Mark, Text, Where}

-- what a message begins with that has a standard term: this
unfoldable pub said_front : List Drawn
said_front =
    Mark (codes "<li class=\"") ∷
    Where 3 (codes "PAST-DUE") (codes "late") ∷
    Where 3 (codes "RELEASE") (codes "release") ∷
    Where 3 (codes "IN") (codes "in") ∷
    Where 3 (codes "OUT") (codes "out") ∷
    Where 3 (codes "CANCEL") (codes "cancel") ∷
    Mark (codes "\">") ∷
    Where 3 (codes "PAST-DUE") (codes "Past due: ") ∷
    Where 3 (codes "RELEASE") (codes "Release: ") ∷
    Where 3 (codes "IN") (codes "Reschedule in: ") ∷
    Where 3 (codes "OUT") (codes "Reschedule out: ") ∷
    Where 3 (codes "CANCEL") (codes "Cancel: ") ∷ []

-- what it ends with: its value, if that has a meaning
unfoldable pub said_back : List Drawn
said_back =
    Where 3 (codes "IN") (codes " to week ") ∷
    Where 3 (codes "OUT") (codes " to week ") ∷
    Where 3 (codes "PAST-DUE") (codes ", weeks late (shop days from version 2 on): ") ∷
    Text 4 ∷
    DateWhere 3 (codes "IN") 4 ∷
    DateWhere 3 (codes "OUT") 4 ∷
    Mark (codes "</li>\n") ∷ []

-- what any other message begins with: its own word
unfoldable pub said_other_front : List Drawn
said_other_front =
    Mark (codes "<li>") ∷
    Text 3 ∷
    Mark (codes ": ") ∷ []

-- what the messages of an item begin with
unfoldable pub said_open : List ℕ
said_open = codes "<ul class=said>\n"

-- what stands at an item without messages
unfoldable pub no_message : List ℕ
no_message = codes "<p class=note>No message on this page.</p>\n"

-- what any other message ends with: its value
unfoldable pub said_other_back : List Drawn
said_other_back =
    Mark (codes " ") ∷
    Text 4 ∷
    Mark (codes "</li>\n") ∷ []

-- the pieces that a message is about
unfoldable pub said_pieces : List Drawn
said_pieces = Mark (codes ", ") ∷ Text 0 ∷ Text 1 ∷ []

-- the start and the due week of an order to be released
unfoldable pub said_start : List Drawn
said_start =
    Mark (codes ", ") ∷
    Text 5 ∷
    Mark (codes " to start, due week ") ∷
    Text 3 ∷
    Date 3 ∷ []

-- the week of any other order
unfoldable pub said_week : List Drawn
said_week = Mark (codes ", week ") ∷ Text 3 ∷ Date 3 ∷ []

-- the week of an open order, by its receipt
unfoldable pub said_receipt : List Drawn
said_receipt = Mark (codes ", week ") ∷ Text 1 ∷ Date 1 ∷ []
