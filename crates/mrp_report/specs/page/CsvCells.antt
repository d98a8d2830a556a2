-- Cells as csv.
use Rattle.std.specs.Prelude.{ℕ, List, ◌∷◌}
use Rattle.csv.specs.Writing.{default_writer, field_text}

-- a cell, between quotes if it needs them
abbrev pub cell_text : List ℕ → List ℕ
cell_text cell = field_text default_writer cell

-- a cell after others, with the comma before it
abbrev pub next_cell : List ℕ → List ℕ
next_cell cell = 44 ∷ cell_text cell
