-- Sets of items that need one another, with their names and the lines of their file (profile).
use Rattle.std.specs.Prelude.{ℕ, ◌≡◌, List, [], ◌∷◌, All, filter_map, length, map, slice_get, slice_index, Option, Some, None, option_and_then}
use Rattle.mrp_loops.specs.declared.line.Line.{Line}
use Rattle.mrp_loops.specs.declared.line.Loop.{Loop}
use Rattle.mrp_loops.specs.Loops.{AreRising, IsTold, IsWayBack, items_of}
use Rattle.mrp_loops.specs.Needs.{IsFirst, Needs}
use Rattle.mrp_survey.specs.declared.bill_lines.BillLine.{BillLine}
use Rattle.mrp_survey.specs.declared.form.Form.{Form}
use Rattle.mrp_survey.specs.BillLines.{bill_lines}
use Rattle.mrp_survey.specs.Forms.{AllCells}
use Rattle.mrp_survey.specs.Names.{Names, name_at}
use Rattle.mrp_survey.specs.Records.{Records, rows_below}
use Rattle.mrp_survey.specs.Surveyed.{LoopTold}

-- the name of the item at a place
abbrev pub name_of : Option Names → ℕ → Option (List ℕ)
name_of items place = option_and_then (λ names. name_at names place) items

-- how many items are known
abbrev pub count_of : Option Names → ℕ
count_of (Some names) = length names
count_of None = 0

-- bill lines by the places of their items
abbrev pub edges_of : List BillLine → List Line
edges_of lines = map (λ (l : BillLine). l.line) lines

-- the bill lines along a way
abbrev pub along : List BillLine → List ℕ → List BillLine
along lines way = filter_map (slice_get lines) way

-- the items along bill lines that lead down from one
abbrev pub places_along : ℕ → List BillLine → List ℕ
places_along item lines = item ∷ map (λ (l : BillLine). l.line.component) lines

abbrev pub names_along : Option Names → ℕ → List BillLine → List (List ℕ)
names_along items item lines = filter_map (name_of items) (places_along item lines)

-- the lines of the file in which bill lines begin
abbrev pub file_lines : Records → List BillLine → List ℕ
file_lines records lines = map (λ (l : BillLine). slice_index records.lines l.number) lines

abbrev pub first_number : List BillLine → ℕ
first_number [] = 0
first_number (line ∷ lines) = line.number

-- a set of items that need one another, as it is told
abbrev pub loop_told : Option Names → Records → List BillLine → Loop → LoopTold
loop_told items records lines own = record {
  file = records.file;
  number = first_number (along lines own.way.items);
  names = names_along items own.item (along lines own.way.items);
  lines = file_lines records (along lines own.way.items);
}

-- these are the loops of bill lines: each set of items that need one another is there once, at its first item, with the shortest way
-- from this item back to it
pub record AreFound (items : Option Names) (records : Records) (lines : List BillLine) (found : List LoopTold) : Type 0 where
  pub own : List Loop
  pub named : found ≡ map (loop_told items records lines) own
  pub ways : All (λ told. IsWayBack (edges_of lines) told.item told.way.items) own
  pub firsts : All (IsFirst (edges_of lines)) (items_of own)
  pub rising : AreRising (items_of own)
  pub all : (item : ℕ) → Needs (edges_of lines) item item → IsTold (edges_of lines) (items_of own) item

abbrev pub FindsBelow : Form → Option Names → Records → Option (List AllCells) → List LoopTold → Type 0
FindsBelow form items records (Some rows) found = AreFound items records (bill_lines form items records rows) found
FindsBelow form items records None found = found ≡ []

-- the loops of a table's bill lines; none of one that is not read
abbrev pub FindsLoops : Form → Option Names → Option Records → List LoopTold → Type 0
FindsLoops form items (Some records) found = FindsBelow form items records (rows_below form records) found
FindsLoops form items None found = found ≡ []
