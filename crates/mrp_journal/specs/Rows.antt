-- Rows of csv that are appended to a journal (profile).
use Rattle.std.specs.Prelude.{ℕ, ◌≡◌, ◌≢◌, Bool, true, false, List, [], ◌∷◌}
use Rattle.csv.specs.Writing.{default_writer, row_text}
use Rattle.mrp_rows.specs.Bundle.{ends_line, without_line_ends}
use Rattle.mrp_journal.specs.Lines.{IsLine}
use Rattle.mrp_journal.specs.Table.{TakesRecords}

-- cells as csv writes them
abbrev pub row : List (List ℕ) → List ℕ
row cells = row_text default_writer cells

-- a row is one line, and begins no section
pub record IsRow (text : List ℕ) : Type 0 where
  pub line : IsLine text
  pub first : ℕ
  pub rest : List ℕ
  pub is : text ≡ first ∷ rest
  pub plain : first ≢ 91

-- two or more cells that are appended as a row
pub record IsRecord (cells : List (List ℕ)) : Type 0 where
  pub first : List ℕ
  pub second : List ℕ
  pub others : List (List ℕ)
  pub is : cells ≡ first ∷ second ∷ others
  pub row : IsRow (row cells)

-- the last byte of a text ends a line
unfoldable pub is_ended : List ℕ → Bool
is_ended [] = false
is_ended (x ∷ []) = ends_line x
is_ended (x ∷ y ∷ rest) = is_ended (y ∷ rest)

-- a journal with a record, whose last line has ended, and to which more records can be appended
pub record IsTable (journal : List ℕ) : Type 0 where
  pub ended : is_ended journal ≡ true
  pub some : without_line_ends journal ≢ []
  pub takes : TakesRecords journal
