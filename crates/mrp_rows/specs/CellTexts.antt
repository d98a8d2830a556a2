-- What contracts see of the texts of a record's cells: the cells, and the bytes of one that is begun (profile).
use Rattle.std.specs.Prelude.{ℕ, ◌≤◌, All, List, [], drop, length, map, slice_range}
use Rattle.mrp_rows.specs.declared.cell_texts.CellTexts.TheInside.{Inside}

pub record Held : Type 0 where
  pub cells : List (List ℕ)
  pub begun : List ℕ

abbrev pub none_held : Held
none_held = record { cells = []; begun = [] }

-- where a cell starts and ends
abbrev pub Place : Type 0
Place = ℕ × ℕ

-- the bytes of a text at a place
abbrev pub bytes_at : List ℕ → Place → List ℕ
bytes_at text place = slice_range text place.0 place.1

-- a place among so many bytes
pub record IsWithin (size : ℕ) (place : Place) : Type 0 where
  pub ordered : place.0 ≤ place.1
  pub inside : place.1 ≤ size

abbrev pub held_in : Inside → Held
held_in texts = record {
  cells = map (bytes_at texts.bytes.items) texts.places.items;
  begun = drop texts.begun texts.bytes.items;
}

-- the cells are among the bytes, and so is the start of the one that is begun
pub record AreHeld (bytes : List ℕ) (places : List Place) (begun : ℕ) : Type 0 where
  pub within : All (IsWithin (length bytes)) places
  pub start : begun ≤ length bytes

abbrev pub IsHeld : Inside → Type 0
IsHeld texts = AreHeld texts.bytes.items texts.places.items texts.begun
