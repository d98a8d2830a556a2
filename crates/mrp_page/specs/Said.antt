-- The messages of an item, each as a sentence.
use Rattle.std.specs.Prelude.{ℕ, Bool, List, [], ◌∷◌, ◌++◌, ◌||◌, ◌&&◌, Option, None, Some, codes, decimal, if◌then◌else◌}
use Rattle.mrp_page.specs.ByWord.{by_word}
use Rattle.mrp_page.specs.Draw.{has_none, is_plain}
use Rattle.mrp_page.specs.Folded.{Listing, folded_html}
use Rattle.mrp_page.specs.ItemRows.{ItemLists}
use Rattle.mrp_page.specs.Kinds.{open_count, order_of, other_messages}
use Rattle.mrp_page.specs.layout.Lists.{list_end}
use Rattle.mrp_page.specs.layout.Said.{no_message, said_back, said_front, said_open, said_other_back, said_other_front, said_pieces, said_receipt, said_start, said_week}
use Rattle.mrp_page.specs.layout.Todo.{task_supply}
use Rattle.mrp_page.specs.Orders.{linked_html}
use Rattle.mrp_page.specs.Receipts.{receipt_of, receipt_row}
use Rattle.mrp_page.specs.Row.{RowView, cell_at, same_text}
use Rattle.mrp_page.specs.Rows.{rows_named}
use Rattle.mrp_page.specs.Scene.{SceneView}
use Rattle.mrp_page.specs.Template.{Drawn, dated_html, has_word, row_html}
use Rattle.mrp_facts.specs.Facts.{Facts}
use Rattle.mrp_page.specs.declared.limits.TheConstants.{FEW_ROWS}
use Rattle.mrp_tables.specs.declared.rows.Receipt.{Receipt}
use Rattle.mrp_day.specs.declared.section.Section.TheVariants as s

-- the words of messages that have a standard term, the most urgent first (profile)
abbrev pub urgent_words : List (List ℕ)
urgent_words = codes "PAST-DUE" ∷ codes "RELEASE" ∷ codes "IN" ∷ codes "OUT" ∷ codes "CANCEL" ∷ []

-- messages by urgency: those of each word in their order, and last those of any other word
unfoldable pub by_urgency : List RowView → List RowView
by_urgency messages = by_word 3 urgent_words messages ++ other_messages messages

-- a message is about the release of its order
abbrev pub is_release : RowView → Bool
is_release message = has_word 3 (codes "PAST-DUE") message || has_word 3 (codes "RELEASE") message

-- the word for so many pieces
abbrev pub piece_word : List ℕ → List ℕ
piece_word pieces = if same_text pieces (codes "1") then codes " piece" else codes " pieces"

-- a number of pieces, and the word for these
abbrev pub drawn_pieces : List ℕ → List ℕ → RowView
drawn_pieces pieces word = record { section = s.Run; cells = pieces ∷ word ∷ [] }

abbrev pub pieces_row : List ℕ → RowView
pieces_row pieces = drawn_pieces pieces (piece_word pieces)

-- the weeks that are said of the order of a message: of its release, or the week that it is due in
abbrev pub weeks_of_order : RowView → List Drawn
weeks_of_order message = if is_release message then said_start else said_week

-- the pieces and the weeks of the order of a message
unfoldable pub said_order : Option Facts → RowView → RowView → List ℕ
said_order tables message order =
    row_html said_pieces (pieces_row (cell_at order 4))
    ++ dated_html tables (weeks_of_order message) order

-- the pieces of an open order, if all pegs are kept
unfoldable pub said_of_open : SceneView → RowView → List ℕ
said_of_open scene message =
    if has_word 1 (codes "open") message && scene.whole then row_html said_pieces (pieces_row (decimal (open_count scene message))) else []

-- the pieces and the week of an open order, by its receipt
unfoldable pub said_received : Option Facts → Receipt → List ℕ
said_received tables receipt =
    row_html said_pieces (pieces_row (decimal receipt.quantity))
    ++ dated_html tables said_receipt (receipt_row receipt)

-- what is said of an order that is not kept: by its receipt, or without one by its pegs
abbrev pub said_of_receipt : SceneView → RowView → Option Receipt → List ℕ
said_of_receipt scene message (Some receipt) = said_received scene.tables receipt
said_of_receipt scene message None = said_of_open scene message

-- what is said of the order of a message
abbrev pub said_known : SceneView → RowView → Option RowView → List ℕ
said_known scene message (Some order) = said_order scene.tables message order
said_known scene message None = said_of_receipt scene message (receipt_of scene.tables message)

-- what a message begins with: its standard term, or its own word
abbrev pub front_of : RowView → List Drawn
front_of message = if is_plain message then said_front else said_other_front

-- what it ends with: its value
abbrev pub back_of : RowView → List Drawn
back_of message = if is_plain message then said_back else said_other_back

-- a message as a sentence: its word, its order, the order's pieces and weeks, and its value
unfoldable pub said_html : SceneView → RowView → List ℕ
said_html scene message =
    row_html (front_of message) message
    ++ (linked_html scene (order_of scene message) (row_html task_supply message)
    ++ (said_known scene message (order_of scene message)
    ++ dated_html scene.tables (back_of message) message))

abbrev pub said_listing : SceneView → Listing
said_listing scene = record { line = said_html scene; front = said_open; back = list_end }

-- messages of an item; if there are none, that there are none on the page
unfoldable pub said_or_none : SceneView → List RowView → List ℕ
said_or_none scene messages = if has_none messages then no_message else folded_html (said_listing scene) FEW_ROWS messages

-- the messages of the item that this is a row of
abbrev pub messages_at : ItemLists → RowView → List RowView
messages_at rows leader = by_urgency (rows_named (cell_at leader 0) rows.messages)

unfoldable pub item_messages : SceneView → ItemLists → RowView → List ℕ
item_messages scene rows leader = said_or_none scene (messages_at rows leader)
