-- What pages consist of: fixed markup, and texts that are known.
use Rattle.std.specs.Prelude.{ℕ, ◌≡◌, ◌⊎◌, ◌-◌, List, [], ◌∷◌, ◌++◌, codes, count_by, decimal, drop, flat_map, length, map, take, unwrap_or, Option, None, Some}
use Rattle.std.specs.List.{All, Contains}
use Rattle.mrp_page.specs.AtRisk.{RisksView}
use Rattle.mrp_page.specs.ItemRows.{item_lists}
use Rattle.mrp_page.specs.Items.{message_count}
use Rattle.mrp_page.specs.Kinds.{kinds, messages_of, open_count, other_messages}
use Rattle.mrp_page.specs.Laws.{Entry, Escaped, Link, Markup, Order, Piece, piece_html}
use Rattle.mrp_page.specs.layout.Centres.{above_bar, above_end, capacity_label, centre_head, centre_open, centres_open, cut_bar, hot_bar, hot_end, load_chart, load_end, load_label, low_bar, low_end, none_over, over_front, over_label, over_open, over_words, share_cell, share_label}
use Rattle.mrp_page.specs.layout.Glance.{glance_open, none_out, out_cells, out_first_open, out_late, outs_front, outs_head_end, outs_note, outs_safety, overloaded_line, overloaded_open}
use Rattle.mrp_page.specs.layout.Head.{centre_tile, head_end, main_open, page_end, page_head, page_items, page_shown, page_top, start_end, start_open, style, summary_open, summary_tile}
use Rattle.mrp_page.specs.layout.History.{entry, history_end, history_open}
use Rattle.mrp_page.specs.layout.Items.{facts_end, facts_open, facts_steps, index_count, item_head, items_end, items_open, lists_open, order, order_address, orders_open, peg_back, peg_booking, peg_middle, peg_need, peg_parent, peg_supply, pegs_open, wait_end, wait_late, wait_order, wait_supply, waits_open}
use Rattle.mrp_page.specs.layout.Lists.{bullet_end, bullet_open, grid_end, link_end, list_end, more, rest_end, rest_open, row_open, section_end, table_end, title_end, title_open}
use Rattle.mrp_page.specs.layout.Records.{available_label, balance_chart, balance_label, balance_scale, booked_label, date_end, date_open, firm_label, gross_label, later_open, line_open, no_promises, no_record, planned_label, point, points_end, record_head, safety_line, safety_scale, scheduled_label, starts_label, week, week_end, weeks_end}
use Rattle.mrp_page.specs.layout.Refused.{none_refused, refused_answer, refused_asked, refused_desk, refused_end, refused_front, refused_open}
use Rattle.mrp_page.specs.layout.Risk.{none_at_risk, risk_booking, risk_front, risk_middle, risk_note, risk_open, risk_order, risks_unknown}
use Rattle.mrp_page.specs.layout.Said.{no_message, said_back, said_front, said_open, said_other_back, said_other_front, said_pieces, said_receipt, said_start, said_week}
use Rattle.mrp_page.specs.layout.Todo.{cancel_front, cancel_open, in_front, in_open, late_front, late_open, nothing_to_do, open_pieces, open_receipt, order_start, order_unknown, order_week, other_cells, other_front, other_open, out_front, out_open, release_front, release_open, row_end, task_middle, task_supply, to_week, todo_note, todo_open, weeks_late}
use Rattle.mrp_page.specs.layout.Work.{work_back, work_blank, work_count, work_end, work_head, work_name, work_note, work_open, work_operation, work_other, work_rest, work_share, work_unknown}
use Rattle.mrp_facts.specs.Facts.{Facts, item_facts, open_order}
use Rattle.mrp_facts.specs.declared.facts.ItemFacts.{ItemFacts}
use Rattle.mrp_tables.specs.declared.rows.Receipt.{Receipt}
use Rattle.mrp_tables.specs.Versions.{lead_unit}
use Rattle.mrp_work.specs.declared.order.Work.{Work}
use Rattle.mrp_page.specs.Explained.{explained_texts}
use Rattle.mrp_page.specs.ItemFacts.{facts_cells}
use Rattle.mrp_page.specs.Notes.{Noted}
use Rattle.mrp_page.specs.Outs.{left_in, outs_first, short_weeks}
use Rattle.mrp_page.specs.Overloaded.{overloaded, share_of_all}
use Rattle.mrp_page.specs.Page.{scene_in, shown_items}
use Rattle.mrp_page.specs.Receipts.{receipt_cells}
use Rattle.mrp_page.specs.Promises.{risks_first}
use Rattle.mrp_page.specs.Refused.{refused_rows}
use Rattle.mrp_page.specs.Row.{Cells, RowView, cell_at}
use Rattle.mrp_page.specs.Rows.{rows_in, rows_named}
use Rattle.mrp_page.specs.Said.{by_urgency}
use Rattle.mrp_page.specs.Scene.{SceneView}
use Rattle.mrp_page.specs.Shares.{overloads_first, share_cells, share_of, whole}
use Rattle.mrp_page.specs.Summary.{centre_count, count_with, is_over, is_undone, overloads}
use Rattle.mrp_page.specs.Template.{Date, DateWhere, Drawn, Mark, Number, Text, Week, Where}
use Rattle.mrp_page.specs.declared.counts.Counts.{Counts}
use Rattle.mrp_page.specs.declared.limits.TheConstants.{FEW_ROWS, MOST_EXPLAINED, MOST_LINES, SOME_ROWS}
use Rattle.mrp_page.specs.Unshown.{unshown}
use Rattle.mrp_page.specs.Work.{WorkView, works_of}
use Rattle.mrp_day.specs.declared.section.Section.TheVariants as s

-- the markup that rows are drawn with
unfoldable pub layouts : List (List Drawn)
layouts = page_top ∷ page_head ∷ said_front ∷ said_back ∷ week ∷ entry ∷ order ∷ centre_head ∷ load_chart ∷ item_head ∷ record_head ∷ balance_chart ∷ point ∷ more ∷ said_other_front ∷ rest_open ∷ refused_answer ∷ refused_asked ∷ refused_desk ∷ task_supply ∷ order_start ∷ order_week ∷ weeks_late ∷ to_week ∷ row_end ∷ other_cells ∷ late_open ∷ release_open ∷ in_open ∷ out_open ∷ cancel_open ∷ other_open ∷ summary_tile ∷ centre_tile ∷ centre_open ∷ low_bar ∷ hot_bar ∷ above_bar ∷ cut_bar ∷ share_cell ∷ over_open ∷ over_words ∷ load_end ∷ open_pieces ∷ index_count ∷ peg_supply ∷ peg_middle ∷ peg_parent ∷ peg_need ∷ peg_back ∷ wait_order ∷ wait_late ∷ outs_note ∷ out_cells ∷ overloaded_line ∷ said_other_back ∷ said_pieces ∷ said_start ∷ said_week ∷ risk_middle ∷ risk_order ∷ balance_scale ∷ out_late ∷ page_shown ∷ []

-- markup that stands between rows
unfoldable pub plain : List (List ℕ)
plain = style ∷ todo_open ∷ nothing_to_do ∷ said_open ∷ list_end ∷ weeks_end ∷ points_end ∷ load_label ∷ capacity_label ∷ over_label ∷ grid_end ∷ centres_open ∷ section_end ∷ scheduled_label ∷ firm_label ∷ booked_label ∷ available_label ∷ gross_label ∷ planned_label ∷ starts_label ∷ balance_label ∷ orders_open ∷ pegs_open ∷ no_record ∷ history_open ∷ history_end ∷ page_end ∷ [] ∷ codes "<td>" ∷ codes "<td class=z>" ∷ codes "</td>" ∷ codes "</tr>\n" ∷ no_promises ∷ table_end ∷ rest_end ∷ refused_open ∷ none_refused ∷ refused_front ∷ row_open ∷ refused_end ∷ todo_note ∷ order_unknown ∷ late_front ∷ release_front ∷ in_front ∷ out_front ∷ cancel_front ∷ other_front ∷ summary_open ∷ main_open ∷ low_end ∷ hot_end ∷ above_end ∷ share_label ∷ later_open ∷ none_over ∷ over_front ∷ codes "<td></td>" ∷ order_address ∷ task_middle ∷ items_open ∷ items_end ∷ bullet_open ∷ bullet_end ∷ lists_open ∷ waits_open ∷ peg_booking ∷ wait_supply ∷ wait_end ∷ link_end ∷ out_first_open ∷ none_out ∷ outs_front ∷ title_open ∷ title_end ∷ overloaded_open ∷ no_message ∷ risk_open ∷ risk_note ∷ none_at_risk ∷ risks_unknown ∷ risk_front ∷ risk_booking ∷ glance_open ∷ outs_head_end ∷ head_end ∷ []

-- the markup of a part
abbrev pub marks_of : Drawn → List (List ℕ)
marks_of (Mark markup) = markup ∷ []
marks_of (Where column word markup) = markup ∷ []
marks_of (Text column) = []
marks_of (Number column) = []
marks_of (Week column) = []
marks_of (Date column) = []
marks_of (DateWhere column word at) = []

-- the markup that what the tables add is drawn with
unfoldable pub tables_layouts : List (List Drawn)
tables_layouts = page_items ∷ facts_open ∷ facts_steps ∷ facts_end ∷ safety_line ∷ open_receipt ∷ work_count ∷ work_head ∷ work_name ∷ work_operation ∷ work_share ∷ work_back ∷ work_rest ∷ safety_scale ∷ said_receipt ∷ []

-- markup that stands around it
unfoldable pub tables_plain : List (List ℕ)
tables_plain = week_end ∷ date_open ∷ date_end ∷ start_open ∷ start_end ∷ line_open ∷ work_note ∷ work_open ∷ work_other ∷ work_blank ∷ work_unknown ∷ work_end ∷ outs_safety ∷ codes " <i>" ∷ codes "</i>" ∷ codes " (" ∷ codes ")" ∷ []

-- all markup that a page may have; it is the same for every day
unfoldable pub own_words : List (List ℕ)
own_words = (plain ++ flat_map (flat_map marks_of) layouts) ++ (tables_plain ++ flat_map (flat_map marks_of) tables_layouts)

-- a piece is such markup, a text that is known, the name of an item that is shown, as a link to it, the number of an entry
-- that is kept, as a link to it, or what a link to an order begins with that is shown
abbrev pub IsPieceOf : (List ℕ → Type 0) → (List ℕ → Type 0) → (List ℕ → Type 0) → (List ℕ → List ℕ → Type 0) → Piece → Type 0
IsPieceOf Known Shown Kept Ordered (Markup markup) = Contains own_words markup
IsPieceOf Known Shown Kept Ordered (Escaped text) = Known text
IsPieceOf Known Shown Kept Ordered (Link name) = Shown name
IsPieceOf Known Shown Kept Ordered (Entry number) = Kept number
IsPieceOf Known Shown Kept Ordered (Order number name) = Ordered number name

-- a text consists of such pieces
abbrev pub IsMadeOf : (List ℕ → Type 0) → (List ℕ → Type 0) → (List ℕ → Type 0) → (List ℕ → List ℕ → Type 0) → List ℕ → Type 0
IsMadeOf Known Shown Kept Ordered html = (pieces : List Piece) × All (IsPieceOf Known Shown Kept Ordered) pieces × (html ≡ flat_map piece_html pieces)

-- a text is a cell of one of these records
abbrev pub StandsIn : List Cells → List ℕ → Type 0
StandsIn records text = (cells : Cells) × Contains records cells × Contains cells text

-- the names of the items that a page shows
abbrev pub names_shown : Noted → List (List ℕ)
names_shown notes = map (λ r. cell_at r 0) (shown_items (item_lists notes.report))

-- the numbers of the entries that are kept of the history
abbrev pub entries_kept : Noted → List (List ℕ)
entries_kept notes = map (λ r. cell_at r 0) notes.history

-- an order with this number is on the page: it is among the orders of an item of this name that is shown
abbrev pub IsOrderShown : Noted → List ℕ → List ℕ → Type 0
IsOrderShown notes number name = Contains (names_shown notes) name × Contains (map (λ r. cell_at r 1) (rows_named name (rows_in s.Orders notes.report))) number

-- how many rows of items are not shown
abbrev pub left_of : Noted → Counts
left_of notes = unshown (item_lists notes.report) (shown_items (item_lists notes.report)) notes.counts

-- the counts of a list: its rows, those that are folded, and those past the most
abbrev pub list_counts : List RowView → List (List ℕ)
list_counts rows = decimal (length rows) ∷ decimal (length (drop SOME_ROWS (take MOST_LINES rows))) ∷ decimal (length (drop MOST_LINES rows)) ∷ []

-- the lists of messages, kind by kind
abbrev pub message_lists : Noted → List (List RowView)
message_lists notes = map (messages_of (rows_in s.Messages notes.report)) kinds ++ (other_messages (rows_in s.Messages notes.report) ∷ [])

-- the counts of the summary
abbrev pub summary_counts : List RowView → List RowView → List RowView → List (List ℕ)
summary_counts history messages loads =
    decimal (count_with 7 (codes "short") history) ∷ decimal (count_by is_undone history)
    ∷ decimal (count_with 3 (codes "PAST-DUE") messages) ∷ decimal (count_with 3 (codes "RELEASE") messages) ∷ decimal (count_with 3 (codes "IN") messages) ∷ decimal (count_with 3 (codes "OUT") messages) ∷ decimal (count_with 3 (codes "CANCEL") messages)
    ∷ decimal (centre_count (overloads loads)) ∷ decimal (centre_count loads) ∷ []

-- the counts of what is not shown, of the items, and of rows that are folded, and those of the summary
abbrev pub own_counts : Noted → List (List ℕ)
own_counts notes =
    decimal notes.counts.messages ∷ decimal notes.counts.loads ∷ decimal (notes.counts.items - length (shown_items (item_lists notes.report)))
    ∷ decimal (left_of notes).plan ∷ decimal (left_of notes).promises ∷ decimal (left_of notes).orders ∷ decimal (left_of notes).pegs ∷ decimal notes.counts.history ∷ decimal notes.counts.items ∷ decimal (length (drop FEW_ROWS (refused_rows notes.history))) ∷ decimal (length (shown_items (item_lists notes.report))) ∷ summary_counts notes.history (rows_in s.Messages notes.report) (rows_in s.Loads notes.report)

-- the lists whose rows are counted
abbrev pub row_lists : Noted → List (List RowView)
row_lists notes = overloads_first (rows_in s.Loads notes.report) ∷ message_lists notes

-- the texts of a week of a work centre that are none of its cells: its whole minutes, its share of capacity, and the heights
-- of its bar
abbrev pub load_texts : RowView → List (List ℕ)
load_texts load = whole (cell_at load 2) ∷ whole (cell_at load 3) ∷ whole (cell_at load 4) ∷ share_cells load (share_of load)

-- what a page is drawn from, as far as the day says
abbrev pub own_scene : Noted → SceneView
own_scene notes = scene_in None notes

-- the pieces of an open order that a message is about
abbrev pub open_texts : SceneView → RowView → List (List ℕ)
open_texts scene message = decimal (open_count scene message) ∷ []

-- how many messages an item has, and how many of them are folded
abbrev pub index_texts : List RowView → RowView → List (List ℕ)
index_texts messages leader = decimal (message_count messages leader) ∷ decimal (length (drop FEW_ROWS (by_urgency (rows_named (cell_at leader 0) messages)))) ∷ []

-- what is left of an item in the week in which it runs out
abbrev pub out_texts : RowView → List (List ℕ)
out_texts week = decimal (left_in week) ∷ []

-- how many weeks of records are not kept, how many items run out, and what is left of each
abbrev pub outs_texts : Noted → List (List ℕ)
outs_texts notes = decimal notes.counts.plan ∷ decimal (length (outs_first (own_scene notes) (rows_in s.Plan notes.report))) ∷ flat_map out_texts (short_weeks (rows_in s.Plan notes.report))

-- in how many weeks a work centre is over its capacity, of how many, and its share of all weeks
abbrev pub centre_texts : List RowView → List (List ℕ)
centre_texts rows = decimal (count_by is_over rows) ∷ decimal (length rows) ∷ decimal (unwrap_or (share_of_all rows) 0) ∷ []

-- that of each work centre that is over its capacity
abbrev pub overloaded_texts : Noted → List (List ℕ)
overloaded_texts notes = flat_map centre_texts (overloaded (rows_in s.Loads notes.report))

abbrev pub item_texts : Noted → List (List ℕ)
item_texts notes =
    flat_map (open_texts (own_scene notes)) (rows_in s.Messages notes.report)
    ++ (flat_map (index_texts (rows_in s.Messages notes.report)) (shown_items (item_lists notes.report))
    ++ (outs_texts notes
    ++ overloaded_texts notes))

abbrev pub listed_texts : Noted → List (List ℕ)
listed_texts notes = flat_map list_counts (row_lists notes) ++ (flat_map load_texts (rows_in s.Loads notes.report) ++ item_texts notes)

-- those, the counts of each list, the texts of work centres, the pieces of open orders, the counts of the index, what is left of items
-- and the texts of overloaded work centres
abbrev pub count_texts : Noted → List (List ℕ)
count_texts notes = own_counts notes ++ listed_texts notes

-- texts of a page that come from no row: those of a table without rows, the words for what is counted, and that of a fold
-- which stands open
unfoldable pub small_words : List (List ℕ)
small_words = [] ∷ codes "0" ∷ codes "1" ∷ codes "message, perhaps an urgent one, is" ∷ codes "messages, urgent ones perhaps among them, are" ∷ codes "week of a work centre is" ∷ codes "weeks of work centres are" ∷ codes "item is" ∷ codes "items are" ∷ codes "week of a record is" ∷ codes "weeks of records are" ∷ codes "week of promises is" ∷ codes "weeks of promises are" ∷ codes "order is" ∷ codes "orders are" ∷ codes "peg is" ∷ codes "pegs are" ∷ codes "entry is" ∷ codes "entries are" ∷ codes "1.000" ∷ codes "entry of the history is" ∷ codes "entries of the history are" ∷ codes "is" ∷ codes "are" ∷ codes "open" ∷ codes "none" ∷ codes "late" ∷ codes "unkept" ∷ codes "not promised" ∷ codes "cancel" ∷ codes "not cancelled" ∷ codes "todo" ∷ codes "release" ∷ codes "in" ∷ codes "out" ∷ codes "past due" ∷ codes "reschedule in" ∷ codes "reschedule out" ∷ codes "centres" ∷ codes "-" ∷ codes "no capacity" ∷ codes " %" ∷ codes " piece" ∷ codes " pieces" ∷ codes "risk" ∷ codes "at risk" ∷ codes "operation" ∷ codes "operations" ∷ []

-- a text is of an item's facts
pub record IsItemText (facts : Facts) (text : List ℕ) : Type 0 where
  pub name : List ℕ
  pub own : ItemFacts
  pub is : item_facts facts.tables name ≡ Some own
  pub among : Contains (facts_cells (lead_unit facts.tables.version) own) text

-- a text is of an open order's receipt
pub record IsReceiptText (facts : Facts) (text : List ℕ) : Type 0 where
  pub name : List ℕ
  pub order : List ℕ
  pub own : Receipt
  pub is : open_order facts.tables name order ≡ Some own
  pub among : Contains (receipt_cells own) text

-- the operations that load the first overloads of a day
abbrev pub work_of_day : Facts → Noted → WorkView
work_of_day facts notes = record { facts = facts; orders = rows_in s.Orders notes.report; asked = take MOST_EXPLAINED (overloads_first (rows_in s.Loads notes.report)) }

-- a text is of the operations that load a week of a work centre
pub record IsWorkText (facts : Facts) (notes : Noted) (text : List ℕ) : Type 0 where
  pub load : RowView
  pub works : List Work
  pub kept : Contains (rows_in s.Loads notes.report) load
  pub is : works_of (work_of_day facts notes) load ≡ Some works
  pub among : Contains (explained_texts load works) text

-- a text is one of the tables: a date of a week, or of an item's facts, or of an open order's receipt, or of the operations that
-- load an overload
abbrev pub IsOfTables : Option Facts → Noted → List ℕ → Type 0
IsOfTables None notes text = ⊥
IsOfTables (Some facts) notes text = Contains facts.dates text ⊎ (IsItemText facts text ⊎ (IsReceiptText facts text ⊎ IsWorkText facts notes text))

-- the counts of the bookings at risk, and what stands of them
abbrev pub risk_texts : RisksView → List (List ℕ)
risk_texts risks = decimal (length risks.rows) ∷ (list_counts (risks_first risks.rows) ++ flat_map (λ risk. risk.cells) risks.rows)

-- a text is the title, a cell of a record, a count, a number of a work centre, a text of a booking at risk, one of those words, or
-- one of the tables
abbrev pub IsKnown : List ℕ → Option Facts → List Cells → Noted → RisksView → List ℕ → Type 0
IsKnown title tables records notes risks text = (text ≡ title) ⊎ (StandsIn records text ⊎ (Contains (count_texts notes) text ⊎ (Contains (risk_texts risks) text ⊎ (Contains small_words text ⊎ IsOfTables tables notes text))))
