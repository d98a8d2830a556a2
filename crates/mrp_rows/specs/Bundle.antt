-- A bundle as a list of bytes: its lines, its section lines, its sections and their texts (profile).
use Rattle.std.specs.Prelude.{ℕ, ◌+◌, Bool, ◌==◌, ◌||◌, ◌&&◌, false, if◌then◌else◌, List, [], ◌∷◌, ◌++◌, codes, drop, Option, Some, None, is_some, Result, Ok, Err, slice_set, replicate}
use Rattle.std.specs.List.{slice_index_or, before_first, onto_first, list_all, prefix_len}
use Rattle.std.specs.Str.{bytes_eq}
use Rattle.mrp_qty.specs.Reading.{◌>>=◌}
use Rattle.mrp_rows.specs.declared.fault.Fault.{Fault}
use Rattle.mrp_rows.specs.declared.faults.TheConstants as faults
use Rattle.mrp_rows.specs.declared.fault.Table.{Table}
use Rattle.mrp_rows.specs.declared.fault.Table.TheVariants as t
use Rattle.mrp_rows.specs.Tables.{table_index}

-- a byte that ends a line: a line feed or a carriage return
abbrev pub ends_line : ℕ → Bool
ends_line byte = (byte == 10) || (byte == 13)

-- the lines of a text, each with the byte that ends it
unfoldable pub lines_of : List ℕ → List (List ℕ)
lines_of [] = []
lines_of (b ∷ bs) = if ends_line b then (b ∷ []) ∷ lines_of bs else onto_first b (lines_of bs)

-- a line that begins with a bracket
abbrev pub is_section_line : List ℕ → Bool
is_section_line [] = false
is_section_line (b ∷ bs) = b == 91

-- a section line, and the text after it up to the next section line or the end
pub record Section : Type 0 where
  pub line : List ℕ
  pub text : List ℕ

-- the text before the first section line, and the sections
abbrev pub Parts : Type 0
Parts = List ℕ × List Section

-- lines, cut at the section lines
unfoldable pub parts_of : List (List ℕ) → Parts
parts_of [] = ([], [])
parts_of (l ∷ ls) =
    if is_section_line l then ([], record { line = l; text = (parts_of ls).0 } ∷ (parts_of ls).1)
    else (l ++ (parts_of ls).0, (parts_of ls).1)

-- the parts of bytes, by their lines
abbrev pub sections_in : List ℕ → Parts
sections_in bytes = parts_of (lines_of bytes)

-- bytes without a leading byte order mark of UTF-8
unfoldable pub without_mark : List ℕ → List ℕ
without_mark [] = []
without_mark (a ∷ []) = a ∷ []
without_mark (a ∷ b ∷ []) = a ∷ b ∷ []
without_mark (a ∷ b ∷ c ∷ rest) = if (a == 239) && (b == 187) && (c == 191) then rest else a ∷ b ∷ c ∷ rest

-- bytes without leading line ends
abbrev pub without_line_ends : List ℕ → List ℕ
without_line_ends bytes = drop (prefix_len ends_line bytes) bytes

-- the text of a section, from what follows its line: without leading line ends and one mark after them
abbrev pub section_text : List ℕ → List ℕ
section_text following = without_mark (without_line_ends following)

-- a line without the byte that ends it
abbrev pub line_text : List ℕ → List ℕ
line_text line = before_first ends_line line

-- the table that a section line names, with nothing more up to the line's end
abbrev pub table_of : List ℕ → Option Table
table_of name =
    if bytes_eq name (codes "[calendar]") then Some t.Calendar
    else if bytes_eq name (codes "[items]") then Some t.Items
    else if bytes_eq name (codes "[centres]") then Some t.Centres
    else if bytes_eq name (codes "[stock]") then Some t.Stock
    else if bytes_eq name (codes "[receipts]") then Some t.Receipts
    else if bytes_eq name (codes "[bills]") then Some t.Bills
    else if bytes_eq name (codes "[routings]") then Some t.Routings
    else if bytes_eq name (codes "[master]") then Some t.Master
    else if bytes_eq name (codes "[script]") then Some t.Script
    else None

-- the fault of text before the first section line
abbrev pub text_before_section : Fault
text_before_section = record { code = faults.TEXT_BEFORE_SECTION; table = t.Bundle; row = 0 }

-- the fault of a section line that names no table: the section lines are counted, this one too
abbrev pub unknown_section : ℕ → Fault
unknown_section count = record { code = faults.UNKNOWN_SECTION; table = t.Bundle; row = count }

-- the fault of a table with two sections
abbrev pub section_twice : Table → Fault
section_twice table = record { code = faults.SECTION_TWICE; table = table; row = 0 }

-- the fault of a table with no section
abbrev pub missing_section : Table → Fault
missing_section table = record { code = faults.MISSING_SECTION; table = table; row = 0 }

-- the tables' texts so far, at the tables' places
abbrev pub Texts : Type 0
Texts = List (Option (List ℕ))

-- no table has a text yet
abbrev pub no_texts : Texts
no_texts = replicate 9 None

-- a text goes to its table's place, unless there already is one
abbrev pub put_text : Texts → List ℕ → Table → Result Texts Fault
put_text texts text table =
    if is_some (slice_index_or texts (table_index table) None) then Err (section_twice table)
    else Ok (slice_set texts (table_index table) (Some text))

-- a text goes to the place of the table that its section line names; one that names none is unknown
abbrev pub put_named : Texts → ℕ → List ℕ → Option Table → Result Texts Fault
put_named texts count text (Some table) = put_text texts text table
put_named texts count text None = Err (unknown_section count)

-- the sections in order, after a count of section lines: the tables' texts, or the first fault
unfoldable pub put_all : Texts → ℕ → List Section → Result Texts Fault
put_all texts count [] = Ok texts
put_all texts count (s ∷ rest) =
    put_named texts (count + 1) (section_text s.text) (table_of (line_text s.line)) >>= λ more. put_all more (count + 1) rest

-- a table's text, or the fault that its section is missing
abbrev pub text_or_missing : Table → Option (List ℕ) → Result (List ℕ) Fault
text_or_missing table (Some text) = Ok text
text_or_missing table None = Err (missing_section table)

-- the text at a table's place
abbrev pub text_at : Texts → Table → Result (List ℕ) Fault
text_at texts table = text_or_missing table (slice_index_or texts (table_index table) None)

-- every table's text, or the first table with none
unfoldable pub all_texts : Texts → Result (List (List ℕ)) Fault
all_texts texts = do
  calendar ← text_at texts t.Calendar
  items ← text_at texts t.Items
  centres ← text_at texts t.Centres
  stock ← text_at texts t.Stock
  receipts ← text_at texts t.Receipts
  bills ← text_at texts t.Bills
  routings ← text_at texts t.Routings
  master ← text_at texts t.Master
  script ← text_at texts t.Script
  Ok (calendar ∷ items ∷ centres ∷ stock ∷ receipts ∷ bills ∷ routings ∷ master ∷ script ∷ [])

-- the nine texts of a bundle in the order of the tables, or its first fault
unfoldable pub bundle_of : List ℕ → Result (List (List ℕ)) Fault
bundle_of bytes =
    if list_all ends_line (sections_in (without_mark bytes)).0 then put_all no_texts 0 (sections_in (without_mark bytes)).1 >>= all_texts
    else Err text_before_section

-- a table's text among the nine
abbrev pub text_in : List (List ℕ) → Table → List ℕ
text_in texts table = slice_index_or texts (table_index table) []
