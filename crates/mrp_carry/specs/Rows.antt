-- Bookings as rows of csv (profile).
use Rattle.std.specs.Prelude.{ℕ, ◌≡◌, List, [], ◌∷◌, ◌++◌, codes, decimal, false, flat_map, Option}
use Rattle.std.specs.List.{AllZip}
use Rattle.std.specs.Io.KnownBytes.{Appends}
use Rattle.jiff.specs.Types.{Date}
use Rattle.jiff.specs.Words.{date_text, epoch_day}
use Rattle.csv.specs.Writing.{default_writer, fields_written, has_written, text_written, writer_setup}
use Rattle.csv.specs.declared.writer.Writer.{Writer}
use Rattle.mrp_cal.specs.Calendar.{ShopCalendar}
use Rattle.mrp_cal.specs.ShopDays.{first_day_of}
use Rattle.mrp_rows.specs.Columns as table
use Rattle.mrp_rows.specs.declared.fault.Table.TheVariants as t
use Rattle.mrp_tables.specs.Tables.{Tables}
use Rattle.mrp_master.specs.declared.line.Line.{Line}
use Rattle.mrp_book.specs.declared.booking.Booking.{Booking}
use Rattle.mrp_report.specs.page.Rows.{row}
use Rattle.mrp_report.specs.section.Cells.{name_at, number_cell}
use Rattle.mrp_carry.specs.declared.form.CarryForm.{CarryForm}
use Rattle.mrp_carry.specs.declared.form.CarryForm.TheVariants.{Numbers, Script}
use Rattle.mrp_carry.specs.Carried.{carried, renumbered}

abbrev pub Row : Type 0
Row = List (List ℕ)

-- a day is the first of a week, a Monday
abbrev pub IsFirstDay : ShopCalendar → ℕ → Date → Type 0
IsFirstDay c week day = epoch_day day ≡ first_day_of c week

-- a line as cells: the name of its item, a day, and its quantity
abbrev pub line_cells : Tables → Line → Date → Row
line_cells tables l day = name_at tables l.item ∷ date_text day ∷ decimal l.quantity ∷ []

-- a booking as a record of a script that books it again: its desk, the word, its line on the first day of its week, and no
-- number
abbrev pub IsRecordOf : Tables → Booking → Row → Type 0
IsRecordOf tables b cells =
    (day : Date) × IsFirstDay tables.calendar b.line.week day × (cells ≡ decimal b.desk ∷ codes "book" ∷ (line_cells tables b.line day ++ [] ∷ []))

-- a booking and the number that it gets, if any, as a row of the list: its number, the new one, its desk, and its line on
-- the first day of its week
abbrev pub IsRowOf : Tables → Booking × Option ℕ → Row → Type 0
IsRowOf tables r cells =
    (day : Date) × IsFirstDay tables.calendar r.0.line.week day × (cells ≡ decimal r.0.number ∷ number_cell r.1 ∷ decimal r.0.desk ∷ line_cells tables r.0.line day)

-- the names of the columns of each form
abbrev pub columns_of : CarryForm → Row
columns_of Script = table.columns_of t.Script
columns_of Numbers = codes "old" ∷ codes "new" ∷ codes "desk" ∷ codes "item" ∷ codes "date" ∷ codes "quantity" ∷ []

-- the rows of each form, one by one: a record for each booking that is carried, or a row for each that stands
abbrev pub AreRows : CarryForm → Tables → ℕ → List Booking → List Row → Type 0
AreRows Script tables start bookings rows = AllZip (IsRecordOf tables) (carried start bookings) rows
AreRows Numbers tables start bookings rows = AllZip (IsRowOf tables) (renumbered start 1 bookings) rows

-- a text is a table of bookings that stand, in this form
abbrev pub IsText : CarryForm → Tables → ℕ → List Booking → List ℕ → Type 0
IsText form tables start bookings text =
    (rows : List Row) × AreRows form tables start bookings rows × (text ≡ row (columns_of form) ++ flat_map row rows)

-- a writer has written whole rows
pub record IsBetweenRows {W : Type 0} (w : Writer W) : Type 0 where
  pub fields : fields_written w ≡ 0
  pub begun : has_written w ≡ false
  pub setup : writer_setup w ≡ default_writer

-- rows like these were written
abbrev pub Writes : {W : Type 0} → (W → Option (List ℕ)) → Writer W → Writer W → (List Row → Type 0) → Type 0
Writes contents old new Are = (rows : List Row) × Are rows × Appends (text_written contents old) (text_written contents new) (flat_map row rows)
