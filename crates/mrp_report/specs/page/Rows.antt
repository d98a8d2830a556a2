-- Rows as csv.
use Rattle.std.specs.Prelude.{ℕ, List}
use Rattle.csv.specs.Writing.{default_writer, row_text}

-- a row of cells as csv, with the line feed that ends it
abbrev pub row : List (List ℕ) → List ℕ
row cells = row_text default_writer cells
