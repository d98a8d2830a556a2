-- Records without quotes that stand in one line, whose cells are found by masks.
use Rattle.std.specs.Prelude.{ℕ, true, ◌≡◌, ◌+◌, ◌<◌, ◌≤◌, ◌==◌, ◌||◌, Bool, All, List, [], Option, Some, None, Result, Ok, Err, drop, length, map, take}
use Rattle.std.specs.List.{position_or_len}
use Rattle.csv.specs.declared.parser.State.TheVariants as st
use Rattle.mrp_qty.specs.declared.memory.NoMemory.{NoMemory}
use Rattle.mrp_rows.specs.CellTexts.{Held, IsWithin, Place, bytes_at, none_held}
use Rattle.mrp_rows.specs.Cutting.{BeginsWith, ends_bare}

-- a byte ends a cell, or is a quote
abbrev pub stops : ℕ → Bool
stops byte = ends_bare byte || (byte == 34)

-- the place of the first such byte from a place on
pub record IsStop (text : List ℕ) (from place : ℕ) : Type 0 where
  pub within : place < length text
  pub first : place ≡ from + position_or_len stops (drop from text)

-- a text begins with a record of so many bytes, with what ends it, whose cells stand at these places, so many at most
pub record AreCells (text : List ℕ) (most : ℕ) (places : List Place) (len : ℕ) : Type 0 where
  pub within : len ≤ length text
  pub inside : All (IsWithin len) places
  pub begins : BeginsWith st.StartField text most (map (bytes_at text) places) (length places) true (drop len text)

-- such a record, or no places
abbrev pub AreFound : List ℕ → ℕ → List Place → Result (Option ℕ) NoMemory → Type 0
AreFound text most places (Ok (Some len)) = AreCells text most places len
AreFound text most places (Ok None) = places ≡ []
AreFound text most places (Err refused) = places ≡ []

-- such a record and its bytes, or neither places nor bytes
abbrev pub AreCopied : List ℕ → ℕ → List ℕ → List Place → Result (Option ℕ) NoMemory → Type 0
AreCopied text most bytes places (Ok (Some len)) = (bytes ≡ take len text) × AreCells text most places len
AreCopied text most bytes places (Ok None) = (bytes ≡ []) × (places ≡ [])
AreCopied text most bytes places (Err refused) = (bytes ≡ []) × (places ≡ [])

-- the cells of a record of so many bytes that a text begins with, or none
abbrev pub IsTaken : List ℕ → ℕ → Held → Option ℕ → Type 0
IsTaken text most held (Some len) = (len ≤ length text) × BeginsWith st.StartField text most held.cells (length held.cells) true (drop len text)
IsTaken text most held None = held ≡ none_held
