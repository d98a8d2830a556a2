-- Records without keys that are told of in two parts, those in front and those behind (profile).
use Rattle.std.specs.Prelude.{ℕ, ◌≡◌, ◌+◌, ◌-◌, Bool, true, false, List, [], ◌++◌, drop, take, Option, Some, None}
use Rattle.mrp_rows.specs.declared.fault.Table.{Table}
use Rattle.mrp_rows.specs.declared.fault.Table.TheVariants as t
use Rattle.mrp_survey.specs.declared.bill_lines.BillLine.{BillLine}
use Rattle.mrp_survey.specs.declared.bill_lines.BillsTold.{BillsTold}
use Rattle.mrp_survey.specs.declared.form.Form.{Form}
use Rattle.mrp_survey.specs.declared.rule.Beside.{Beside}
use Rattle.mrp_survey.specs.BillLines.{lines_from}
use Rattle.mrp_survey.specs.Finding.{Told}
use Rattle.mrp_survey.specs.Forms.{AllCells}
use Rattle.mrp_survey.specs.Headers.{limit_of}
use Rattle.mrp_survey.specs.Names.{Names}
use Rattle.mrp_survey.specs.Records.{Records}
use Rattle.mrp_survey.specs.Tables.{told_from}

-- whether records of a table have something to themselves
abbrev pub has_key : Table → Bool
has_key t.Calendar = false
has_key t.Items = true
has_key t.Centres = true
has_key t.Stock = true
has_key t.Receipts = true
has_key t.Bills = false
has_key t.Routings = true
has_key t.Master = false
has_key t.Script = false
has_key t.Bundle = false

-- the records within a limit, of those from one of this number on
abbrev pub within_left : Option ℕ → ℕ → List AllCells → List AllCells
within_left (Some limit) number rows = take (limit + 1 - number) rows
within_left None number rows = rows

-- what is told of records without keys, from one of this number on
abbrev pub bills_told : Form → Beside → Records → ℕ → List AllCells → List Told
bills_told form beside records number rows = told_from form beside records [] number rows

-- those of them within the limit that are bill lines and lead from item to item
abbrev pub lines_left : Form → Option Names → Records → ℕ → List AllCells → List BillLine
lines_left form items records number rows = lines_from form items records number (within_left (limit_of form) number rows)

-- nothing where there is an end
abbrev pub unless : {X : Type 0} → Bool → List X → List X
unless true xs = []
unless false xs = xs

-- of the records from the first on some are told of, behind what was told before: all, or those up to one from which on the rest is left
pub record TellsSome (form : Form) (beside : Beside) (records : Records) (before : List Told) (first : ℕ) (rows : List AllCells) (past : ℕ) (rest : List AllCells) (some : BillsTold) : Type 0 where
  pub told : before ++ bills_told form beside records first rows ≡ some.findings.items ++ unless some.is_end (bills_told form beside records past rest)
  pub lines : lines_left form beside.items records first rows ≡ some.lines.items ++ unless some.is_end (lines_left form beside.items records past rest)
  pub left : some.is_end ≡ false → rest ≡ drop (past - first) rows

-- those in front of the one of this number
abbrev pub TellsFront : Form → Beside → Records → List Told → List AllCells → ℕ → BillsTold → Type 0
TellsFront form beside records before rows past front = (rest : List AllCells) × TellsSome form beside records before 1 rows past rest front

-- those from the one of this number on
pub record TellsBack (form : Form) (beside : Beside) (records : Records) (rows : List AllCells) (first : ℕ) (back : BillsTold) : Type 0 where
  pub told : back.findings.items ≡ bills_told form beside records first (drop (first - 1) rows)
  pub lines : back.lines.items ≡ lines_left form beside.items records first (drop (first - 1) rows)
