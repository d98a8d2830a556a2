-- The journal as the script's table of a folder's bundle (profile).
use Rattle.std.specs.Prelude.{ℕ, true, ◌≡◌, ◌≤◌, ◌+◌, List, ◌++◌, [], ◌∷◌, Result, Ok, flat_map, length, map, take}
use Rattle.std.specs.List.{enumerate_from}
use Rattle.csv.specs.Reading.{strip_bom}
use Rattle.mrp_cal.specs.Calendar.{ShopCalendar}
use Rattle.mrp_rows.specs.declared.fault.Fault.{Fault}
use Rattle.mrp_rows.specs.declared.fault.Table.TheVariants as t
use Rattle.mrp_rows.specs.declared.streams.TheConstants.{GREATEST_BUNDLE}
use Rattle.mrp_rows.specs.Bundle.{section_text}
use Rattle.mrp_rows.specs.Columns.{layout_of}
use Rattle.mrp_rows.specs.Joined.{Part, joined}
use Rattle.mrp_rows.specs.Records.{records_of}
use Rattle.mrp_tables.specs.declared.item.Item.{Item}
use Rattle.mrp_tables.specs.declared.rows.ScriptRow.{ScriptRow}
use Rattle.mrp_tables.specs.Reading.{Reads, by_itself, reads_of, rows_of}
use Rattle.mrp_tables.specs.Script.{script_row}
use Rattle.mrp_tables.specs.Tables.{Tables}
use Rattle.mrp_master.specs.Supply.{supply_of}
use Rattle.mrp_book.specs.History.{IsLegal, asked, next_number}
use Rattle.mrp_book.specs.Standing.{History}
use Rattle.mrp_report.specs.section.HistoryText.{entry_text, history_text}
use Rattle.mrp_journal.specs.Journal.{begun}
use Rattle.mrp_journal.specs.Lines.{whole_lines}
use Rattle.mrp_journal.specs.Rows.{IsTable}
use Rattle.mrp_journal.specs.Table.{TakesRecords, header_for}
use Rattle.mrp_script.specs.Opened.{IsAccepted}
use Rattle.mrp_script.specs.Script.{record_of, with_run}
use Rattle.mrp_calls.specs.Answers.{Answers}
use Rattle.mrp_calls.specs.Desk.{Desk}
use Rattle.mrp_calls.specs.LineCall.{is_whole}

-- how the script's records are read, beside a calendar and items
abbrev pub script_reads : ShopCalendar → List Item → Reads ScriptRow
script_reads calendar items = reads_of t.Script (by_itself (script_row calendar items))

-- the rows that a journal has as the script's table of a bundle, in which a line feed follows it
abbrev pub script_in : ShopCalendar → List Item → List ℕ → Result (List ScriptRow) Fault
script_in calendar items journal = rows_of (script_reads calendar items) (layout_of t.Script) (section_text (journal ++ 10 ∷ []))

-- a whole line is one record: nothing stands in front of it, it begins no section, and no quoted cell is open at its end
pub record IsOneRecord (line : List ℕ) (cells : List (List ℕ)) : Type 0 where
  pub whole : is_whole line ≡ true
  pub bare : strip_bom line ≡ line
  pub cells_are : records_of line ≡ cells ∷ []
  pub own : section_text line ≡ line
  pub takes : TakesRecords line

-- a desk's entries answer the records of a journal in the order of its rows, and as a legal history; more can be appended to it
pub record AnswersJournal (journal : List ℕ) (d : Desk) : Type 0 where
  pub table : IsTable journal
  pub script : List ScriptRow
  pub rows : script_in d.tables.calendar d.tables.items journal ≡ Ok script
  pub calls : asked d.entries ≡ map record_of script
  pub legal : IsLegal (supply_of d.tables) d.entries

-- the bundle of a folder's tables: the others', and the journal as the script's, which comes last
abbrev pub bundle_with : List Part → List ℕ → List ℕ
bundle_with others journal = joined (others ++ (t.Script, journal) ∷ [])

-- a shop's tables with another script
abbrev pub with_script : Tables → List ScriptRow → Tables
with_script tables script = record tables { script = script }

-- a desk is open on a folder: with its journal the folder's bundle is accepted, and no longer than one may be; its tables are the
-- desk's, with the journal's records for the script; and the desk's entries answer these, as a legal history
pub record AnswersFolder (others : List Part) (journal : List ℕ) (d : Desk) : Type 0 where
  pub table : IsTable journal
  pub script : List ScriptRow
  pub accepted : IsAccepted (bundle_with others journal) (with_script d.tables script)
  pub calls : asked d.entries ≡ map record_of script
  pub legal : IsLegal (supply_of d.tables) d.entries
  pub fits : length (bundle_with others journal) + d.room ≤ GREATEST_BUNDLE

-- the history of a day of the folder goes on from the desk's entries: behind them stands no more than the run that a script
-- without one is taken with; its text begins with their rows
pub record GoesOn (d : Desk) (script : List ScriptRow) (h : History) : Type 0 where
  pub more : History
  pub is : h ≡ d.entries ++ more
  pub added : asked d.entries ++ asked more ≡ with_run (asked d.entries)
  pub text : history_text (with_script d.tables script) h ≡ history_text d.tables d.entries ++ flat_map (entry_text d.tables) (enumerate_from (next_number d.entries) more)

-- a journal as it is begun in a file that has these bytes
abbrev pub journal_in : List ℕ → List ℕ
journal_in bytes = begun bytes (header_for (whole_lines bytes))

-- while a desk answered lines, its folder's journal was left so by a crash: it is begun again with the records of the first of these
-- lines behind it, and the folder opens with a desk that has answered these alone
pub record IsLeftOpen (lines : List (List ℕ)) (others : List Part) (journal left : List ℕ) (old : Desk) : Type 0 where
  pub count : ℕ
  pub few : count ≤ length lines
  pub answers : List ℕ
  pub records : List ℕ
  pub desk : Desk
  pub first : Answers (take count lines) old answers records desk
  pub begins : journal_in left ≡ journal ++ records
  pub opens : AnswersFolder others (journal ++ records) desk
