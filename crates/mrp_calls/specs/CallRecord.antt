-- The record of a call (profile).
use Rattle.std.specs.Prelude.{ℕ, ◌≡◌, true, List, [], ◌∷◌, Ok}
use Rattle.std.specs.Char.{is_ascii_digit}
use Rattle.mrp_rows.specs.Cell.{cell_at}
use Rattle.mrp_rows.specs.Left.{Cells}
use Rattle.mrp_rows.specs.Records.{records_of}
use Rattle.mrp_tables.specs.declared.rows.ScriptCall.{ScriptCall}
use Rattle.mrp_tables.specs.declared.rows.ScriptCall.TheVariants as s
use Rattle.mrp_tables.specs.declared.rows.ScriptRow.{ScriptRow}
use Rattle.mrp_tables.specs.Script.{script_row}
use Rattle.mrp_tables.specs.Tables.{Tables}
use Rattle.mrp_report.specs.page.Rows.{row}
use Rattle.mrp_journal.specs.Rows.{IsRow}

-- the cells that a call uses, as they came; the others are empty
abbrev pub kept_cells : ScriptCall → Cells → List (List ℕ)
kept_cells (s.Book item week quantity) r = cell_at r 0 ∷ cell_at r 1 ∷ cell_at r 2 ∷ cell_at r 3 ∷ cell_at r 4 ∷ [] ∷ []
kept_cells (s.Cancel entry) r = cell_at r 0 ∷ cell_at r 1 ∷ [] ∷ [] ∷ [] ∷ cell_at r 5 ∷ []
kept_cells (s.Ask item week) r = cell_at r 0 ∷ cell_at r 1 ∷ cell_at r 2 ∷ cell_at r 3 ∷ [] ∷ [] ∷ []
kept_cells (s.When item quantity) r = cell_at r 0 ∷ cell_at r 1 ∷ cell_at r 2 ∷ [] ∷ cell_at r 4 ∷ [] ∷ []
kept_cells s.Run r = cell_at r 0 ∷ cell_at r 1 ∷ [] ∷ [] ∷ [] ∷ [] ∷ []

-- the record that is journalled for a call, as csv writes it
abbrev pub record_text : ScriptCall → Cells → List ℕ
record_text call r = row (kept_cells call r)

-- a record is one line, which begins with a digit
pub record IsRecordLine (text : List ℕ) : Type 0 where
  pub line : IsRow text
  pub digit : is_ascii_digit line.first ≡ true

-- what is journalled for a call is one record, which reads as the call
pub record ReadsBack (t : Tables) (r : Cells) (given : ScriptRow) : Type 0 where
  pub cells : records_of (record_text given.call r) ≡ kept_cells given.call r ∷ []
  pub call : script_row t.calendar t.items (record { table = r.table; number = r.number; cells = kept_cells given.call r }) ≡ Ok given
