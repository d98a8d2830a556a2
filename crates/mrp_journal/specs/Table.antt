-- A journal as a table of records: what stands between two records, and what a journal is to which more can be appended (profile).
use Rattle.std.specs.Prelude.{ℕ, ◌≡◌, ◌==◌, false, if◌then◌else◌, List, [], ◌∷◌, ◌++◌, codes}
use Rattle.csv.specs.Reading.{strip_bom}
use Rattle.mrp_rows.specs.Bundle.{ends_line, section_text}
use Rattle.mrp_rows.specs.Records.{records_of}
use Rattle.mrp_rows.specs.Together.{has_section_line}
use Rattle.mrp_journal.specs.declared.table.Place.{Place}
use Rattle.mrp_journal.specs.declared.table.Place.TheVariants.{Bare, Behind, Between, Front, Quoted}

-- the records of a journal, its header first
abbrev pub journal_records : List ℕ → List (List (List ℕ))
journal_records journal = records_of (section_text journal)

-- the same, where the journal is a table of a folder's bundle, in which a line feed follows it
abbrev pub table_records : List ℕ → List (List (List ℕ))
table_records journal = journal_records (journal ++ 10 ∷ [])

-- behind a byte of a cell that is not between quotes
abbrev pub bare_after : ℕ → Place
bare_after byte = if byte == 44 then Front else if ends_line byte then Between else Bare

-- behind a byte where a quote would begin or go on
abbrev pub front_after : ℕ → Place
front_after byte = if byte == 34 then Quoted else bare_after byte

abbrev pub place_after : Place → ℕ → Place
place_after Between byte = if ends_line byte then Between else front_after byte
place_after Front byte = front_after byte
place_after Bare byte = bare_after byte
place_after Quoted byte = if byte == 34 then Behind else Quoted
place_after Behind byte = front_after byte

-- the place behind a text
unfoldable pub place_behind : Place → List ℕ → Place
place_behind at [] = at
place_behind at (byte ∷ rest) = place_behind (place_after at byte) rest

-- what a csv reader reads of a journal
abbrev pub body_of : List ℕ → List ℕ
body_of journal = strip_bom (section_text journal)

-- more records can be appended: no line of the journal begins a section, and no quoted cell is open at its end
pub record TakesRecords (journal : List ℕ) : Type 0 where
  pub no_section : has_section_line journal ≡ false
  pub between : place_behind Between (body_of journal) ≡ Between

-- the names of the columns of the script's table
abbrev pub script_names : List (List ℕ)
script_names = codes "desk" ∷ codes "call" ∷ codes "item" ∷ codes "date" ∷ codes "quantity" ∷ codes "number" ∷ []

-- the header of the script's table
abbrev pub script_header : List ℕ
script_header = codes "desk,call,item,date,quantity,number\n"

abbrev pub header_unless : List (List (List ℕ)) → List ℕ
header_unless [] = script_header
header_unless (header ∷ records) = []

-- what a journal begins with behind what stands in its file: the header, where no record stands there
abbrev pub header_for : List ℕ → List ℕ
header_for kept = header_unless (journal_records kept)
