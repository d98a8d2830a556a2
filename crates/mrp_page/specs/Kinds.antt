-- The section *To do*: the messages, kind by kind.
use Rattle.std.specs.Prelude.{ℕ, List, [], ◌∷◌, ◌++◌, ◌==◌, ◌&&◌, ◌*◌, ◌-◌, ◌^◌, Option, None, Some, codes, length, map, nat_le, not, if◌then◌else◌}
use Rattle.std.specs.List.{filter}
use Rattle.mrp_page.specs.declared.kinds.Kind.{Kind as Declared}
use Rattle.mrp_page.specs.declared.kinds.Sorting.{Sorting}
use Rattle.mrp_page.specs.declared.kinds.Sorting.TheVariants as sorts
use Rattle.mrp_page.specs.declared.limits.TheConstants.{SOME_ROWS}
use Rattle.mrp_page.specs.ByWord.{with_word}
use Rattle.mrp_page.specs.Draw.{has_none, is_plain, item_name_html, more_html}
use Rattle.mrp_page.specs.Folded.{Listing, capped_html}
use Rattle.mrp_page.specs.Frame.{count_row}
use Rattle.mrp_page.specs.layout.Lists.{rest_end, row_open, section_end, table_end}
use Rattle.mrp_page.specs.layout.Todo.{cancel_front, cancel_open, in_front, in_open, late_front, late_open, nothing_to_do, open_pieces, order_start, order_unknown, order_week, other_cells, other_front, other_open, out_front, out_open, release_front, release_open, row_end, task_middle, task_supply, to_week, todo_note, todo_open, weeks_late}
use Rattle.mrp_page.specs.Orders.{linked_html, ordered}
use Rattle.mrp_page.specs.Pegs.{pieces_of_order}
use Rattle.mrp_page.specs.Receipts.{receipt_html, receipt_of}
use Rattle.mrp_tables.specs.declared.rows.Receipt.{Receipt}
use Rattle.mrp_page.specs.Row.{RowView, cell_at}
use Rattle.mrp_page.specs.Rows.{rank}
use Rattle.mrp_page.specs.Scene.{SceneView}
use Rattle.mrp_page.specs.Sorted.{sorted_by}
use Rattle.mrp_page.specs.Template.{Drawn, dated_html, drawn_of, has_word, row_html}

-- a kind of messages: the word that the day has for it; what its fold and its table begin with; the cells that its rows have
-- of the order that a message is about, and those of the message;
-- and the order of its rows
pub record Kind : Type 0 where
  pub word : List ℕ
  pub head : List Drawn
  pub front : List ℕ
  pub order : List Drawn
  pub value : List Drawn
  pub sorting : Sorting

abbrev pub kind_of : Declared → Kind
kind_of kind = record { word = kind.word.now; head = map drawn_of kind.head.now; front = kind.front.now; order = map drawn_of kind.order.now; value = map drawn_of kind.value.now; sorting = kind.sorting }

abbrev pub late : Kind
late = record { word = codes "PAST-DUE"; head = late_open; front = late_front; order = order_start; value = weeks_late; sorting = sorts.Falling }

abbrev pub release : Kind
release = record { word = codes "RELEASE"; head = release_open; front = release_front; order = order_start; value = row_end; sorting = sorts.Day }

abbrev pub earlier : Kind
earlier = record { word = codes "IN"; head = in_open; front = in_front; order = order_week; value = to_week; sorting = sorts.Rising }

abbrev pub later : Kind
later = record { word = codes "OUT"; head = out_open; front = out_front; order = order_week; value = to_week; sorting = sorts.Day }

abbrev pub cancel : Kind
cancel = record { word = codes "CANCEL"; head = cancel_open; front = cancel_front; order = order_week; value = row_end; sorting = sorts.Day }

-- messages with any other word
abbrev pub other : Kind
other = record { word = []; head = other_open; front = other_front; order = order_week; value = other_cells; sorting = sorts.Day }

-- the kinds that a page has words for, in its order
abbrev pub kinds : List Kind
kinds = late ∷ release ∷ earlier ∷ later ∷ cancel ∷ []

-- the order that a message is about, if it is kept: that of its item with its number and kind
abbrev pub order_of : SceneView → RowView → Option RowView
order_of scene message = ordered scene (cell_at message 0) (cell_at message 1) (cell_at message 2)

-- how many pieces the open order of a message has: those of its pegs
abbrev pub open_count : SceneView → RowView → ℕ
open_count scene message = pieces_of_order scene.pegs (cell_at message 0) (cell_at message 2)

-- the cells of an open order by its pegs, if all are kept, or what stands in their place
abbrev pub pegged_html : SceneView → RowView → List ℕ
pegged_html scene message =
    if has_word 1 (codes "open") message && scene.whole then row_html open_pieces (count_row (open_count scene message) [] []) else order_unknown

-- the cells of an open order by its receipt, or without one by its pegs
abbrev pub received_html : SceneView → RowView → Option Receipt → List ℕ
received_html scene message (Some receipt) = receipt_html scene.tables receipt
received_html scene message None = pegged_html scene message

abbrev pub open_html : SceneView → RowView → List ℕ
open_html scene message = received_html scene message (receipt_of scene.tables message)

-- the cells of an order, or of an open one
abbrev pub order_html : Kind → SceneView → RowView → Option RowView → List ℕ
order_html kind scene message (Some order) = dated_html scene.tables kind.order order
order_html kind scene message None = open_html scene message

-- a message
unfoldable pub task_line : Kind → SceneView → RowView → List ℕ
task_line kind scene message =
    row_open
    ++ (item_name_html scene.shown (cell_at message 0)
    ++ (task_middle
    ++ (linked_html scene (order_of scene message) (row_html task_supply message)
    ++ (codes "</td>"
    ++ (order_html kind scene message (order_of scene message)
    ++ dated_html scene.tables kind.value message)))))

abbrev pub kind_listing : Kind → SceneView → Listing
kind_listing kind scene = record { line = task_line kind scene; front = kind.front; back = table_end }

-- the messages of a kind, folded behind their number; nothing if there are none
unfoldable pub kind_html : Kind → SceneView → List ℕ → List RowView → List ℕ
kind_html kind scene state rows =
    if has_none rows then []
    else row_html kind.head (count_row (length rows) state state) ++ (capped_html (kind_listing kind scene) SOME_ROWS rows ++ rest_end)

-- whether the fold of a kind is open that is not always: if there are few messages
abbrev pub state_of : List RowView → List ℕ
state_of messages = if nat_le (length messages) (2 * SOME_ROWS) then codes "open" else []

-- the number of a message's value
abbrev pub value_rank : RowView → ℕ
value_rank message = rank (cell_at message 4)

-- a number that falls as the value rises
abbrev pub falling_rank : RowView → ℕ
falling_rank message = 2 ^ 64 - 1 - value_rank message

-- messages in the order of their values, or as they are
abbrev pub in_order : Sorting → List RowView → List RowView
in_order sorts.Day messages = messages
in_order sorts.Rising messages = sorted_by value_rank messages
in_order sorts.Falling messages = sorted_by falling_rank messages

-- the messages of a kind, in its order
abbrev pub messages_of : List RowView → Kind → List RowView
messages_of messages kind = in_order kind.sorting (with_word 3 messages kind.word)

abbrev pub other_messages : List RowView → List RowView
other_messages messages = filter (λ message. not (is_plain message)) messages

unfoldable pub kind_part : SceneView → List RowView → Kind → List ℕ
kind_part scene messages kind = kind_html kind scene (state_of messages) (messages_of messages kind)

unfoldable pub other_part : SceneView → List RowView → List ℕ
other_part scene messages = kind_html other scene (state_of messages) (other_messages messages)

-- the kinds of messages
unfoldable pub kinds_html : SceneView → List RowView → List ℕ
kinds_html scene messages =
    kind_part scene messages late
    ++ (kind_part scene messages release
    ++ (kind_part scene messages earlier
    ++ (kind_part scene messages later
    ++ (kind_part scene messages cancel
    ++ other_part scene messages))))

-- what messages are; or that there are none, if all are kept
abbrev pub note_html : List RowView → ℕ → List ℕ
note_html messages missed = if has_none messages && (missed == 0) then nothing_to_do else todo_note

-- how many messages were not kept; they may be of any urgency
unfoldable pub todo_back : ℕ → List ℕ
todo_back missed =
    more_html missed (codes "message, perhaps an urgent one, is") (codes "messages, urgent ones perhaps among them, are")
    ++ section_end

-- the section *To do*
unfoldable pub todo_html : SceneView → List RowView → ℕ → List ℕ
todo_html scene messages missed =
    todo_open
    ++ (note_html messages missed
    ++ (kinds_html scene messages
    ++ todo_back missed))
