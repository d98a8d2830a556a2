-- The columns of a day, by their names.
use Rattle.std.specs.Prelude.{ℕ, List}
use Rattle.std.specs.List.{position_or_len}
use Rattle.mrp_page.specs.Row.{same_text}
use Rattle.mrp_day.specs.Sections.{columns_of}
use Rattle.mrp_day.specs.declared.section.Section.{Section}

-- the place of a section's column
abbrev pub column : Section → List ℕ → ℕ
column section name = position_or_len (same_text name) (columns_of section)
