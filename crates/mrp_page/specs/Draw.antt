-- The parts of a page.
use Rattle.std.specs.Prelude.{ℕ, Bool, List, Option, [], ◌++◌, ◌==◌, ◌&&◌, ◌||◌, ◌-◌, not, length, codes, drop, take, if◌then◌else◌}
use Rattle.std.specs.List.{list_any}
use Rattle.mrp_page.specs.declared.counts.Counts.{Counts}
use Rattle.mrp_page.specs.declared.limits.TheConstants.{TABLE_WEEKS}
use Rattle.mrp_page.specs.Escaped.{escaped}
use Rattle.mrp_page.specs.Frame.{count_row, frame_of}
use Rattle.mrp_page.specs.Html.{is_zero}
use Rattle.mrp_page.specs.ItemFacts.{safety_html, scale_html}
use Rattle.mrp_page.specs.ItemRows.{ItemLists}
use Rattle.mrp_page.specs.layout.History.{entry, history_end, history_open}
use Rattle.mrp_page.specs.layout.Lists.{grid_end, link_end, link_middle, link_open, more, rest_end}
use Rattle.mrp_page.specs.layout.Records.{available_label, balance_chart, balance_label, balance_scale, booked_label, firm_label, gross_label, later_open, line_open, no_promises, no_record, planned_label, point, points_end, record_head, scheduled_label, starts_label}
use Rattle.mrp_page.specs.Row.{RowView, is_of}
use Rattle.mrp_page.specs.Rows.{greatest, rows_named}
use Rattle.mrp_page.specs.Template.{Drawn, dated_rows, flows_html, has_word, numbers_html, row_html, rows_html}
use Rattle.mrp_page.specs.Weeks.{weeks_html}
use Rattle.mrp_facts.specs.Facts.{Facts}

-- rows between two pieces of markup
unfoldable pub table_html : List ℕ → List Drawn → List RowView → List ℕ → List ℕ
table_html front parts rows back =
    front
    ++ (rows_html parts rows
    ++ back)

-- the same with the dates of their weeks
unfoldable pub dated_table : Option Facts → List ℕ → List Drawn → List RowView → List ℕ → List ℕ
dated_table tables front parts rows back =
    front
    ++ (dated_rows tables parts rows
    ++ back)

-- a row of a table over the weeks: the numbers of a column
unfoldable pub measure_html : List ℕ → ℕ → List RowView → List ℕ
measure_html label column rows =
    label
    ++ (numbers_html column rows
    ++ codes "</tr>\n")

-- the same with the numbers that are 0 left empty
unfoldable pub amounts_html : List ℕ → ℕ → List RowView → List ℕ
amounts_html label column rows =
    label
    ++ (flows_html column rows
    ++ codes "</tr>\n")

-- a name that links to its item on the same page
unfoldable pub link_html : List ℕ → List ℕ
link_html name =
    link_open
    ++ (escaped name
    ++ (link_middle
    ++ (escaped name
    ++ link_end)))

-- an item is among those of these rows
abbrev pub has_item : List RowView → List ℕ → Bool
has_item shown name = list_any (is_of name) shown

-- the name of an item, as a link if the item is among those that are shown
unfoldable pub item_name_html : List RowView → List ℕ → List ℕ
item_name_html shown name =
    if has_item shown name then link_html name else escaped name

-- a message has one of the words that a page puts into plain ones
abbrev pub is_plain : RowView → Bool
is_plain message = has_word 3 (codes "PAST-DUE") message || (has_word 3 (codes "RELEASE") message || (has_word 3 (codes "IN") message || (has_word 3 (codes "OUT") message || has_word 3 (codes "CANCEL") message)))

-- how many are not shown; nothing if that is none
unfoldable pub more_html : ℕ → List ℕ → List ℕ → List ℕ
more_html count one many =
    if count == 0 then [] else row_html more (count_row count one many)

-- there is no row
abbrev pub has_none : List RowView → Bool
has_none rows = length rows == 0

-- a plan has a firm schedule
abbrev pub has_firm : List RowView → Bool
has_firm plan = not (is_zero (greatest 4 (codes "0") plan))

-- what is due of an item are scheduled receipts: it has no promises and no firm schedule, as a part
abbrev pub is_scheduled : List RowView → List RowView → Bool
is_scheduled plan promises = has_none promises && not (has_firm plan)

-- what is due: the firm schedule of a master item, the scheduled receipts of a part
unfoldable pub supplies_html : Bool → List RowView → List ℕ
supplies_html scheduled plan =
    if scheduled then amounts_html scheduled_label 3 plan
    else amounts_html firm_label 4 plan

-- what is booked of a master item, and what is available to promise
unfoldable pub booked_html : List RowView → List ℕ
booked_html promises =
    amounts_html booked_label 3 promises
    ++ measure_html available_label 5 promises

-- what is promised of a master item; nothing for a part
unfoldable pub promised_html : List RowView → List ℕ
promised_html promises =
    if has_none promises then [] else booked_html promises

-- the points of the picture of balances
unfoldable pub points_html : List RowView → List ℕ
points_html plan =
    table_html [] point plan points_end

-- the picture of an item's balances, a line, with its safety stock, in the scale too, if the tables are given
unfoldable pub balance_html : Option Facts → RowView → List RowView → List ℕ
balance_html tables frame plan =
    row_html balance_scale frame
    ++ (scale_html tables frame
    ++ (row_html balance_chart frame
    ++ (safety_html tables frame
    ++ (line_open
    ++ points_html plan))))

-- what is planned of an item, and the balance that is left
unfoldable pub planned_html : List RowView → List ℕ
planned_html plan =
    amounts_html planned_label 5 plan
    ++ (amounts_html starts_label 6 plan
    ++ measure_html balance_label 7 plan)

-- the rows of an item's time-phased record
unfoldable pub record_rows : Bool → List RowView → List RowView → List ℕ
record_rows scheduled plan promises =
    amounts_html gross_label 2 plan
    ++ (supplies_html scheduled plan
    ++ (planned_html plan
    ++ promised_html promises))

-- a table of some weeks of an item's time-phased record
unfoldable pub record_table : Option Facts → RowView → Bool → List RowView → List RowView → List ℕ
record_table tables frame scheduled plan promises =
    row_html record_head frame
    ++ (weeks_html tables plan
    ++ (record_rows scheduled plan promises
    ++ grid_end))

-- a table of its further weeks, folded
unfoldable pub later_record : Option Facts → RowView → Bool → List RowView → List RowView → List ℕ
later_record tables frame scheduled plan promises =
    if has_none plan then [] else later_open ++ (record_table tables frame scheduled plan promises ++ rest_end)

-- the weeks of an item's time-phased record
unfoldable pub all_weeks : Option Facts → RowView → Bool → List RowView → List RowView → List ℕ
all_weeks tables frame scheduled plan promises =
    record_table tables frame scheduled (take TABLE_WEEKS plan) (take TABLE_WEEKS promises)
    ++ later_record tables frame scheduled (drop TABLE_WEEKS plan) (drop TABLE_WEEKS promises)

-- the time-phased record of an item, from its frame
unfoldable pub framed_record : Option Facts → RowView → List RowView → List RowView → List ℕ
framed_record tables frame plan promises =
    balance_html tables frame plan
    ++ all_weeks tables frame (is_scheduled plan promises) plan promises

-- the time-phased record of an item
unfoldable pub record_html : Option Facts → List ℕ → List RowView → List RowView → List ℕ
record_html tables name plan promises = framed_record tables (frame_of name plan 7 7 (codes "1")) plan promises

-- the record of an item, or a note that it is not kept
unfoldable pub record_or_none : Option Facts → List ℕ → List RowView → List RowView → List ℕ
record_or_none tables name plan promises =
    if has_none plan then no_record else record_html tables name plan promises

-- the record of an item, by its name
unfoldable pub named_record : Option Facts → ItemLists → List ℕ → List ℕ
named_record tables rows name =
    record_or_none tables name (rows_named name rows.plan) (rows_named name rows.promises)

-- a note that an item with a record may have promises that are not kept, if any are not
abbrev pub promises_note : List RowView → List RowView → ℕ → List ℕ
promises_note plan promises missed =
    if (missed == 0) || (has_none plan || not (has_none promises)) then [] else no_promises

-- the note on an item's promises, by its name
unfoldable pub named_note : ItemLists → ℕ → List ℕ → List ℕ
named_note rows missed name =
    promises_note (rows_named name rows.plan) (rows_named name rows.promises) missed

-- for how many more weeks there are records and promises
unfoldable pub more_weeks : Counts → List ℕ
more_weeks counts =
    more_html counts.plan (codes "week of a record is") (codes "weeks of records are")
    ++ more_html counts.promises (codes "week of promises is") (codes "weeks of promises are")

-- how many more orders and pegs there are
unfoldable pub more_lists : Counts → List ℕ
more_lists counts =
    more_html counts.orders (codes "order is") (codes "orders are")
    ++ more_html counts.pegs (codes "peg is") (codes "pegs are")

-- how many more rows of items are not kept
unfoldable pub more_rows : Counts → List ℕ
more_rows counts = more_weeks counts ++ more_lists counts

-- how many more items there are than these, and how many rows of items are not kept
unfoldable pub more_items : Counts → List RowView → List ℕ
more_items counts shown =
    more_html (counts.items - length shown) (codes "item is") (codes "items are")
    ++ more_rows counts

-- the history, folded away, and how many more entries it has
unfoldable pub history_html : Option Facts → List RowView → ℕ → List ℕ
history_html tables history missed =
    dated_table tables history_open entry history grid_end
    ++ (more_html missed (codes "entry is") (codes "entries are")
    ++ history_end)
