-- What is told of nine tables (profile).
use Rattle.std.specs.Prelude.{ℕ, ◌≡◌, ◌+◌, ◌-◌, Bool, false, if◌then◌else◌, List, [], ◌++◌, length, map, slice_index_or, Option, Some, None, option_and_then, option_map}
use Rattle.std.specs.List.{range_with_len}
use Rattle.mrp_cal.specs.Calendar.{ShopCalendar}
use Rattle.mrp_rows.specs.declared.fault.Table.{Table}
use Rattle.mrp_rows.specs.declared.fault.Table.TheVariants as t
use Rattle.mrp_rows.specs.Shown.{nothing_shown}
use Rattle.mrp_rows.specs.Tables.{table_index}
use Rattle.mrp_tables.specs.declared.version.Version.{Version}
use Rattle.mrp_tables.specs.declared.version.Version.TheVariants.{One, Three}
use Rattle.mrp_survey.specs.declared.begun.Progress.{Progress}
use Rattle.mrp_survey.specs.declared.begun.Progress.TheVariants.{Begun, Done}
use Rattle.mrp_survey.specs.declared.finding.What.TheVariants as what
use Rattle.mrp_survey.specs.declared.form.Form.{Form}
use Rattle.mrp_survey.specs.declared.rule.Beside.{Beside}
use Rattle.mrp_survey.specs.declared.source.Source.{Source}
use Rattle.mrp_survey.specs.Finding.{Told}
use Rattle.mrp_survey.specs.Forms.{AllCells, Row, dated_key, entry_place}
use Rattle.mrp_survey.specs.Headers.{can_be_read, header_of, header_shown}
use Rattle.mrp_survey.specs.Horizons.{calendar_in, has_version, version_in}
use Rattle.mrp_survey.specs.Loops.{FindsLoops}
use Rattle.mrp_survey.specs.Names.{Names}
use Rattle.mrp_survey.specs.Records.{Records, records_from, rows_below}
use Rattle.mrp_survey.specs.Surveyed.{LoopTold, SurveyBegun, Surveyed}
use Rattle.mrp_survey.specs.Tables.{header_told, names_in, row_shown, told_from}
use Rattle.mrp_survey.specs.Told.{told}

-- where the tables' texts are, in the order of the tables
abbrev pub Sources : Type 0
Sources = List (Option Source)

abbrev pub records_of_source : Source → Records
records_of_source source = records_from source.file source.line source.text.now

-- the records of a table, where it has a text
abbrev pub records_at : Sources → Table → Option Records
records_at sources table = option_map records_of_source (slice_index_or sources (table_index table) None)

-- no other table is looked at
abbrev pub nothing_beside : Beside
nothing_beside = record { items = None; centres = None; calendar = None }

abbrev pub below_told : Form → Beside → Records → Option (List AllCells) → List Told
below_told form beside records (Some rows) = told_from form beside records [] 1 rows
below_told form beside records None = []

-- a wrong header, and then what is wrong with the records below it, if it can be read
abbrev pub table_told : Form → Beside → Option Records → List Told
table_told form beside (Some records) = header_told form records ++ below_told form beside records (rows_below form records)
table_told form beside None = []

-- the records below a header, if that can be read
abbrev pub rows_in : Form → Option Records → Option (List Row)
rows_in form records = option_map (map (row_shown form)) (option_and_then (rows_below form) records)

abbrev pub form_of : Table → Version → Form
form_of table version = record { table = table; version = version; has_version = false }

abbrev pub begins_with_version : Option (List Row) → Bool
begins_with_version (Some rows) = has_version rows
begins_with_version None = false

-- the calendar's form, by its first record
abbrev pub dated_form : Option Records → Form
dated_form records = record { table = t.Calendar; version = One; has_version = begins_with_version (rows_in (form_of t.Calendar One) records) }

-- a record of the calendar that is missing
abbrev pub missing : Form → Table → ℕ → Told
missing form file number = told (record { file = file; table = form.table; number = number + 1; line = 0 }) nothing_shown 0 (what.Missing (dated_key (entry_place form (number + 1))))

-- the records that a calendar with so many lacks
abbrev pub missing_from : Form → Table → ℕ → List Told
missing_from form file count = map (missing form file) (range_with_len count ((if form.has_version then 4 else 3) - count))

abbrev pub lacking : Form → Records → Option (List AllCells) → List Told
lacking form records (Some rows) = missing_from form records.file (length rows)
lacking form records None = []

abbrev pub lacks_told : Form → Option Records → List Told
lacks_told form (Some records) = lacking form records (rows_below form records)
lacks_told form None = []

-- what is wrong with the calendar
abbrev pub dated_told : Form → Option Records → List Told
dated_told form records = table_told form nothing_beside records ++ lacks_told form records

abbrev pub calendar_told : Sources → List Told
calendar_told sources = dated_told (dated_form (records_at sources t.Calendar)) (records_at sources t.Calendar)

-- the version whose columns a header of items has: the third, or else the first
abbrev pub header_version : Option AllCells → Version
header_version (Some header) = if can_be_read (form_of t.Items Three) (header_shown header) then Three else One
header_version None = One

abbrev pub version_of_items : Option Records → Version
version_of_items (Some records) = header_version (header_of records.rows)
version_of_items None = One

-- the version, if it is right; where no calendar can be read, that of the items' header
abbrev pub version_below : Version → Form → Option (List Row) → Option Version
version_below own form (Some rows) = version_in form rows
version_below own form None = Some own

abbrev pub version_by : Version → Form → Option Records → Option Version
version_by own form records = version_below own form (rows_in form records)

abbrev pub version_among : Sources → Option Version
version_among sources = version_by (version_of_items (records_at sources t.Items)) (dated_form (records_at sources t.Calendar)) (records_at sources t.Calendar)

-- the calendar's start and weeks, if both are right
abbrev pub calendar_by : Form → Option Records → Option ShopCalendar
calendar_by form records = option_and_then (calendar_in form) (rows_in form records)

abbrev pub calendar_among : Sources → Option ShopCalendar
calendar_among sources = calendar_by (dated_form (records_at sources t.Calendar)) (records_at sources t.Calendar)

-- the names of a table that was read to its end
abbrev pub names_below : Form → Records → Option (List AllCells) → Option Names
names_below form records rows = option_and_then (names_in form records) rows

abbrev pub names_by : Form → Option Records → Option Names
names_by form records = option_and_then (λ own. names_below form own (rows_below form own)) records

abbrev pub names_among : Sources → Form → Option Names
names_among sources form = names_by form (records_at sources form.table)

-- the same of the items, which are read only where the version is right
abbrev pub items_among : Sources → Option Version → Option Names
items_among sources version = option_and_then (λ own. names_among sources (form_of t.Items own)) version

-- a table that is read only where the version is right
abbrev pub versioned_told : Sources → Beside → Table → Option Version → List Told
versioned_told sources beside table (Some version) = table_told (form_of table version) beside (records_at sources table)
versioned_told sources beside table None = []

-- the tables that look at others: from the stock to the bills, and behind them
abbrev pub first_told : Sources → Beside → List Told
first_told sources beside =
    versioned_told sources beside t.Stock (Some One)
    ++ versioned_told sources beside t.Receipts (Some One)
    ++ versioned_told sources beside t.Bills (Some One)

abbrev pub last_told : Sources → Beside → Option Version → List Told
last_told sources beside version =
    versioned_told sources beside t.Routings (Some One)
    ++ versioned_told sources beside t.Master version
    ++ versioned_told sources beside t.Script (Some One)

-- what the others look at
abbrev pub beside_in : Sources → Beside
beside_in sources = record {
  items = items_among sources (version_among sources);
  centres = names_among sources (form_of t.Centres One);
  calendar = calendar_among sources;
}

-- what is told of the calendar, the items and the work centres, and what the others look at
abbrev pub begun_in : Sources → SurveyBegun
begun_in sources = record {
  findings =
      calendar_told sources
      ++ versioned_told sources nothing_beside t.Items (version_among sources)
      ++ table_told (form_of t.Centres One) nothing_beside (records_at sources t.Centres);
  version = version_among sources;
  beside = beside_in sources;
}

-- the sets of known items that need one another
abbrev pub FindsLoopsIn : Sources → Option Names → List LoopTold → Type 0
FindsLoopsIn sources items loops = FindsLoops (form_of t.Bills One) items (records_at sources t.Bills) loops

-- what is wrong with the records of all tables, in the order of the tables
abbrev pub survey_told : Sources → List Told
survey_told sources =
    calendar_told sources
    ++ versioned_told sources nothing_beside t.Items (version_among sources)
    ++ table_told (form_of t.Centres One) nothing_beside (records_at sources t.Centres)
    ++ first_told sources (beside_in sources)
    ++ last_told sources (beside_in sources) (version_among sources)

-- a survey of texts: what is wrong with their records, and what is known of their tables
pub record IsSurveyOf (sources : Sources) (survey : Surveyed) : Type 0 where
  pub findings : survey.findings ≡ survey_told sources
  pub loops : FindsLoopsIn sources survey.items survey.loops
  pub version : survey.version ≡ version_among sources
  pub calendar : survey.calendar ≡ calendar_among sources
  pub items : survey.items ≡ items_among sources (version_among sources)
  pub centres : survey.centres ≡ names_among sources (form_of t.Centres One)

-- the same where it may only be begun
abbrev pub IsProgress : Sources → Progress → Type 0
IsProgress sources (Begun begun) = begun ≡ begun_in sources
IsProgress sources (Done survey) = IsSurveyOf sources survey
