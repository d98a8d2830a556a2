-- A bundle joined from separate tables.
use Rattle.std.specs.Prelude.{ℕ, ◌≡◌, false, List, [], ◌++◌, map, codes}
use Rattle.std.specs.List.{flat_map, All}
use Rattle.mrp_rows.specs.declared.fault.Table.{Table}
use Rattle.mrp_rows.specs.Bundle.{Section, sections_in}
use Rattle.mrp_rows.specs.FaultText.{table_name}
use Rattle.mrp_rows.specs.Together.{has_section_line}

-- a table and its bytes
abbrev pub Part : Type 0
Part = Table × List ℕ

-- the section line of a table, with its line feed
abbrev pub section_line_of : Table → List ℕ
section_line_of table = codes "[" ++ table_name table ++ codes "]\n"

-- a part as a section: its table's line, and its bytes with a line feed after them (profile)
abbrev pub section_of : Part → Section
section_of part = record { line = section_line_of part.0; text = part.1 ++ codes "\n" }

-- the bytes of a section
abbrev pub section_bytes : Section → List ℕ
section_bytes s = s.line ++ s.text

-- the bundle of parts: their sections in order
abbrev pub joined : List Part → List ℕ
joined parts = flat_map (λ part. section_bytes (section_of part)) parts

-- parts in which no line is a section line are the sections of their bundle, with nothing before them
abbrev pub ComeApart : List Part → Type 0
ComeApart parts = All (λ (part : Part). has_section_line part.1 ≡ false) parts → sections_in (joined parts) ≡ ([], map section_of parts)
