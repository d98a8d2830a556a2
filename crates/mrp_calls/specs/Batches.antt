-- Lines that were answered one after the other: their answers, their entries and their records (profile).
use Rattle.std.specs.Prelude.{ℕ, ◌≡◌, ◌+◌, List, ◌++◌, All, length, Option, IfSome, flat_map}
use Rattle.std.specs.List.{concat, enumerate_from, filter_map}
use Rattle.mrp_tables.specs.Facts.{IsItem}
use Rattle.mrp_tables.specs.Tables.{Tables}
use Rattle.mrp_turn.specs.declared.log.Entry.{Entry}
use Rattle.mrp_book.specs.declared.call.Call.{Call}
use Rattle.mrp_book.specs.declared.reply.Reply.{Reply}
use Rattle.mrp_book.specs.Standing.{History}
use Rattle.mrp_book.specs.History.{next_number}
use Rattle.mrp_report.specs.section.HistoryText.{entry_text}
use Rattle.mrp_journal.specs.Lines.{IsLine}
use Rattle.mrp_calls.specs.CallRecord.{IsRecordLine}
use Rattle.mrp_calls.specs.Desk.{Desk}

-- an answer, and the numbered entry of which it is the row, if it is one
abbrev pub Said : Type 0
Said = List ℕ × Option (ℕ × Entry Call Reply)

-- an answer that is a row is that of its entry
abbrev pub IsRowOf : Tables → Said → Type 0
IsRowOf t said = IfSome said.1 (λ numbered. said.0 ≡ entry_text t numbered)

-- each line has one answer of one line, in order, where each item has a name; the rows among them are those of the entries that were made, in order, each once; each of
-- these has one record, in order, which takes room; the entries before stay
pub record AreAnswered (lines : List (List ℕ)) (old : Desk) (answers records : List ℕ) (new : Desk) : Type 0 where
  pub said : List Said
  pub one_each : length said ≡ length lines
  pub answers_are : answers ≡ flat_map (λ (s : Said). s.0) said
  pub line_each : All IsItem old.tables.items → All (λ (s : Said). IsLine s.0) said
  pub rows_are : All (IsRowOf old.tables) said
  pub made : History
  pub in_order : filter_map (λ (s : Said). s.1) said ≡ enumerate_from (next_number old.entries) made
  pub entries : new.entries ≡ old.entries ++ made
  pub tables : new.tables ≡ old.tables
  pub texts : List (List ℕ)
  pub records_are : records ≡ concat texts
  pub record_each : length texts ≡ length made
  pub lines_are : All IsRecordLine texts
  pub room : old.room ≡ length records + new.room
