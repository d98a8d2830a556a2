-- The cells of a line, and which lines are records of csv.
use Rattle.std.specs.Prelude.{ℕ, Bool, true, false, ◌≡◌, ◌⊎◌, ◌==◌, ◌||◌, ◌&&◌, ◌+◌, ◌-◌, ◌<◌, ◌≤◌, ◌++◌, All, List, [], ◌∷◌, length, nat_le, not, slice_index, slice_range, sum_by, take}
use Rattle.std.specs.List.{list_any, slice_split}
use Rattle.mrp_rows.specs.Bundle.{ends_line}
use Rattle.mrp_lines.specs.declared.line.TheConstants.{LONGEST_LINE}
use Rattle.mrp_lines.specs.declared.window.TheConstants.{ROOM}
use Rattle.mrp_lines.specs.declared.window.Front.{Front}
use Rattle.mrp_lines.specs.declared.window.Front.TheVariants as front

-- some cell has the end of a line
abbrev pub have_ends : List (List ℕ) → Bool
have_ends cells = list_any (list_any ends_line) cells

-- how many bytes cells take in a line without quotes, its line feed included
abbrev pub size_of : List (List ℕ) → ℕ
size_of cells = sum_by (λ cell. length cell + 1) cells

-- cells stand in one line, which is not too long
abbrev pub is_line : List (List ℕ) → Bool
is_line cells = nat_le (size_of cells) LONGEST_LINE && not (have_ends cells)

-- the last byte of a text ends a line
abbrev pub ends : List ℕ → Bool
ends [] = false
ends (byte ∷ []) = ends_line byte
ends (byte ∷ next ∷ rest) = ends (next ∷ rest)

-- a byte stands between two cells
abbrev pub is_comma : ℕ → Bool
is_comma byte = byte == 44

-- the cells of a line without quotes: what stands between its commas
abbrev pub cells_of : List ℕ → List (List ℕ)
cells_of line = slice_split is_comma line

-- a byte is a quote or a carriage return
abbrev pub is_special : ℕ → Bool
is_special byte = byte == 34 || byte == 13

-- no byte is a quote or a carriage return
abbrev pub ArePlain : List ℕ → Type 0
ArePlain bytes = All (λ byte. is_special byte ≡ false) bytes

-- some byte is
abbrev pub HaveSpecial : List ℕ → Type 0
HaveSpecial bytes = (place : ℕ) × (place < length bytes) × (is_special (slice_index bytes place) ≡ true)

-- no byte is a line feed
abbrev pub AreUnended : List ℕ → Type 0
AreUnended bytes = All (λ byte. (byte == 10) ≡ false) bytes

-- a line that csv reads as its cells: some bytes without a quote, a carriage return or a line feed. It does not begin
-- as a byte order mark does, which csv skips at the start of a text
pub record IsPlainLine (line : List ℕ) : Type 0 where
  pub some : 0 < length line
  pub mark : (slice_index line 0 == 239) ≡ false
  pub plain : ArePlain line
  pub one : AreUnended line

-- such a line of this many bytes, and its line feed, stand in front
pub record IsLineAt (len : ℕ) (bytes : List ℕ) : Type 0 where
  pub within : len < length bytes
  pub ended : slice_index bytes len ≡ 10
  pub line : IsPlainLine (take len bytes)

-- a line feed, or what begins a byte order mark, stands in front
pub record BeginOtherwise (bytes : List ℕ) : Type 0 where
  pub some : 0 < length bytes
  pub first : (slice_index bytes 0 ≡ 10) ⊎ (slice_index bytes 0 ≡ 239)

-- csv has to read these bytes: one of those stands in front, or a quote or a carriage return is among them
abbrev pub AreLeft : List ℕ → Type 0
AreLeft bytes = BeginOtherwise bytes ⊎ HaveSpecial bytes

-- some lines, of so many bytes, stand in front
pub record AreLinesAt (len : ℕ) (bytes : List ℕ) : Type 0 where
  pub some : 0 < len
  pub within : len ≤ length bytes
  pub ended : ends_line (slice_index bytes (len - 1)) ≡ true

-- no line of at most so many bytes stands in front
pub record IsEndless (bytes : List ℕ) : Type 0 where
  pub room : length bytes ≡ ROOM
  pub none : All (λ byte. ends_line byte ≡ false) bytes

-- what is said of the bytes that were read ahead
abbrev pub IsFront : List ℕ → Front → Type 0
IsFront bytes (front.Line len) = IsLineAt len bytes
IsFront bytes front.Part = AreUnended bytes
IsFront bytes front.Other = AreLeft bytes

-- so many bytes were read behind others
pub record IsMore (old new : List ℕ) (count : ℕ) : Type 0 where
  pub bytes : List ℕ
  pub size : length bytes ≡ count
  pub behind : new ≡ old ++ bytes

-- whether bytes are plain is known
pub record IsKnown (plain : Bool) (bytes : List ℕ) : Type 0 where
  pub are : plain ≡ true → ArePlain bytes
  pub have : plain ≡ false → HaveSpecial bytes

-- these places are in order and within a buffer, and whether the bytes between them are plain is known
pub record IsWithin (start end : ℕ) (plain : Bool) (buffer : List ℕ) : Type 0 where
  pub ordered : start ≤ end
  pub inside : end ≤ length buffer
  pub room : length buffer ≡ ROOM
  pub known : IsKnown plain (slice_range buffer start end)
