-- Of which kind each cell of a table's records has to be (profile).
use Rattle.std.specs.Prelude.{ℕ, ◌==◌, ◌||◌, ◌&&◌, ◌-◌, if◌then◌else◌, is_none, unwrap_or, List, []}
use Rattle.std.specs.List.{slice_index_or}
use Rattle.mrp_cal.specs.declared.calendar.TheConstants.{MOST_WEEKS}
use Rattle.mrp_rows.specs.declared.fault.Table.{Table}
use Rattle.mrp_rows.specs.declared.fault.Table.TheVariants as t
use Rattle.mrp_rows.specs.Shown.{Shown}
use Rattle.mrp_tables.specs.declared.limits.TheConstants as limits
use Rattle.mrp_tables.specs.declared.version.TheConstants.{MOST_VERSION}
use Rattle.mrp_tables.specs.declared.version.Version.{Version}
use Rattle.mrp_tables.specs.Items.{greatest_size, least_size}
use Rattle.mrp_tables.specs.Versions.{most_lead}
use Rattle.mrp_survey.specs.declared.form.Form.{Form}
use Rattle.mrp_survey.specs.declared.kind.Kind.{Kind}
use Rattle.mrp_survey.specs.declared.kind.Kind.TheVariants as kind
use Rattle.mrp_survey.specs.declared.kind.Words.{Words}
use Rattle.mrp_survey.specs.declared.kind.Words.TheVariants as words
use Rattle.mrp_survey.specs.Kinds.{place_among, wrong}

-- all cells of a record
abbrev pub AllCells : Type 0
AllCells = List (List ℕ)

-- what is kept of a record
abbrev pub Row : Type 0
Row = Shown

-- a cell of a record, by its column from 0
abbrev pub cell_in : Row → ℕ → List ℕ
cell_in row column = slice_index_or row.first column []

-- which entry of the calendar a record is: 0 a version, 1 the start, 2 the weeks, 3 the workdays, and then holidays
abbrev pub entry_place : Form → ℕ → ℕ
entry_place form number = if form.has_version then number - 1 else number

abbrev pub dated_key : ℕ → Words
dated_key place =
    if place == 0 then words.Version
    else if place == 1 then words.Start
    else if place == 2 then words.Weeks
    else if place == 3 then words.Workdays
    else words.Holiday

abbrev pub dated_kind : ℕ → Kind
dated_kind place =
    if place == 0 then kind.Number 1 MOST_VERSION
    else if place == 1 then kind.Monday
    else if place == 2 then kind.Number 1 MOST_WEEKS
    else if place == 3 then kind.Workdays
    else kind.Date

-- the key, and then its value, which is not read where the key is wrong
abbrev pub calendar_kind : Form → ℕ → Row → ℕ → Kind
calendar_kind form number row column =
    if column == 0 then kind.Word (dated_key (entry_place form number))
    else if is_none (wrong (kind.Word (dated_key (entry_place form number))) (cell_in row 0)) then dated_kind (entry_place form number)
    else kind.Unread

-- the place of an item's lot rule; that of `lfl` where it is wrong
abbrev pub lot_in : Row → ℕ
lot_in row = unwrap_or (place_among words.LotRules (cell_in row 4)) 0

abbrev pub item_kind : Version → Row → ℕ → Kind
item_kind version row column =
    if column == 0 then kind.Name
    else if column == 1 then kind.Word words.Classes
    else if column == 2 then kind.Number 0 (most_lead version)
    else if column == 3 then kind.Number 0 limits.MOST_SCRAP
    else if column == 4 then kind.Word words.LotRules
    else if column == 5 then kind.Number (least_size (lot_in row)) (greatest_size (lot_in row))
    else if column == 6 then kind.Number 0 limits.MOST_PIECES
    else if column == 7 then kind.Number 0 limits.MOST_LEAST
    else kind.Number 1 limits.MOST_STEP

abbrev pub centre_kind : ℕ → Kind
centre_kind column = if column == 0 then kind.Name else kind.Number 0 limits.MOST_MINUTES

abbrev pub stock_kind : ℕ → Kind
stock_kind column = if column == 0 then kind.Name else kind.Number 0 limits.MOST_PIECES

abbrev pub receipt_kind : ℕ → Kind
receipt_kind column =
    if column == 0 then kind.Name
    else if column == 1 then kind.Name
    else if column == 2 then kind.Date
    else kind.Number 0 limits.MOST_PIECES

abbrev pub bill_kind : ℕ → Kind
bill_kind column =
    if column == 0 then kind.Name
    else if column == 1 then kind.Name
    else kind.Number 1 limits.MOST_PER

abbrev pub routing_kind : ℕ → Kind
routing_kind column =
    if column == 0 then kind.Name
    else if column == 1 then kind.Number 1 limits.GREATEST_OPERATION
    else if column == 2 then kind.Name
    else if column == 3 then kind.Number 0 limits.MOST_SETUP
    else if column == 4 then kind.Number 0 limits.MOST_RUN
    else kind.Number 0 limits.MOST_OFFSET

abbrev pub master_kind : Version → ℕ → Kind
master_kind version column =
    if column == 0 then kind.Name
    else if column == 1 then kind.Word (words.RowKinds version)
    else if column == 2 then kind.Date
    else kind.Number 0 limits.MOST_PIECES

-- the place of a script's call; past the last where it is wrong
abbrev pub call_in : Row → ℕ
call_in row = unwrap_or (place_among words.Calls (cell_in row 1)) 5

-- the cells of a call that come after it; those that it does not use are not read
abbrev pub call_kind : ℕ → ℕ → Kind
call_kind call column =
    if ((call == 0) || (call == 2) || (call == 3)) && (column == 2) then kind.Name
    else if ((call == 0) || (call == 2)) && (column == 3) then kind.Date
    else if ((call == 0) || (call == 3)) && (column == 4) then kind.Number 1 limits.MOST_PIECES
    else if (call == 1) && (column == 5) then kind.Number 1 limits.MOST_ENTRIES
    else kind.Unread

abbrev pub script_kind : Row → ℕ → Kind
script_kind row column =
    if column == 0 then kind.Number 1 limits.MOST_DESKS
    else if column == 1 then kind.Word words.Calls
    else call_kind (call_in row) column

-- the kind of a cell, by the table
abbrev pub kind_in : Table → Form → ℕ → Row → ℕ → Kind
kind_in t.Calendar form number row column = calendar_kind form number row column
kind_in t.Items form number row column = item_kind form.version row column
kind_in t.Centres form number row column = centre_kind column
kind_in t.Stock form number row column = stock_kind column
kind_in t.Receipts form number row column = receipt_kind column
kind_in t.Bills form number row column = bill_kind column
kind_in t.Routings form number row column = routing_kind column
kind_in t.Master form number row column = master_kind form.version column
kind_in t.Script form number row column = script_kind row column
kind_in t.Bundle form number row column = kind.Unread

-- the kind of a record's cell, by the record's number, from 1, and the cell's column, from 0
abbrev pub kind_of : Form → ℕ → Row → ℕ → Kind
kind_of form number row column = kind_in form.table form number row column
