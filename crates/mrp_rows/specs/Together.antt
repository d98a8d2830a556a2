-- What holds of the parts of every bundle.
use Rattle.std.specs.Prelude.{ℕ, ◌≡◌, ◌≢◌, ◌⊎◌, Bool, false, List, [], ◌∷◌, ◌++◌, codes, Some, Ok}
use Rattle.std.specs.List.{flat_map, list_any}
use Rattle.mrp_rows.specs.declared.fault.Table.{Table}
use Rattle.mrp_rows.specs.declared.fault.Table.TheVariants as t
use Rattle.mrp_rows.specs.Bundle.{Parts, Section, lines_of, is_section_line, sections_in, without_mark, table_of, line_text, section_text, bundle_of, text_in}
use Rattle.mrp_rows.specs.FaultText.{table_name}

-- the byte order mark of UTF-8
abbrev pub mark : List ℕ
mark = 239 ∷ 187 ∷ 191 ∷ []

-- the text before the first section line, and then each section line with what follows it
abbrev pub together : Parts → List ℕ
together parts = parts.0 ++ flat_map (λ s. s.line ++ s.text) parts.1

-- one of the lines is a section line
abbrev pub has_section_line : List ℕ → Bool
has_section_line bytes = list_any is_section_line (lines_of bytes)

-- bytes are their parts, put together
abbrev pub PartsAreTogether : List ℕ → Type 0
PartsAreTogether bytes = together (sections_in bytes) ≡ bytes

-- there is no section line before the first, nor in what follows one
pub record HasNoOther (bytes : List ℕ) : Type 0 where
  pub before : has_section_line (sections_in bytes).0 ≡ false
  pub sections : list_any (λ s. has_section_line s.text) (sections_in bytes).1 ≡ false

-- one leading mark is dropped, and nothing else
pub record DropsOneMark (bytes : List ℕ) : Type 0 where
  pub marked : without_mark (mark ++ bytes) ≡ bytes
  pub only : (without_mark bytes ≡ bytes) ⊎ (bytes ≡ mark ++ without_mark bytes)

-- a table's section line is its name in brackets
abbrev pub NamesItsTable : Table → Type 0
NamesItsTable table = table ≢ t.Bundle → table_of (codes "[" ++ table_name table ++ codes "]") ≡ Some table

-- a section's line names a table, and its text is that table's
abbrev pub IsTextOf : List (List ℕ) → Section → Type 0
IsTextOf texts s = (table : Table) × (table_of (line_text s.line) ≡ Some table) × (text_in texts table ≡ section_text s.text)

-- this holds of each of the sections
abbrev pub AreTextsOf : List (List ℕ) → List Section → Type 0
AreTextsOf texts [] = Unit {0}
AreTextsOf texts (s ∷ sections) = IsTextOf texts s × AreTextsOf texts sections

-- the texts of an accepted bundle are those of its sections
abbrev pub TextsAreSections : List ℕ → Type 0
TextsAreSections bytes = (texts : List (List ℕ)) → bundle_of bytes ≡ Ok texts → AreTextsOf texts (sections_in (without_mark bytes)).1
