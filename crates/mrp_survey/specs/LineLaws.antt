-- Where the records of a text begin.
use Rattle.std.specs.Prelude.{ℕ, ◌≡◌, ◌+◌, ◌<◌, ◌==◌, Bool, false, if◌then◌else◌, List, [], ◌∷◌, ◌++◌, drop, length, slice_index}
use Rattle.csv.specs.Reading.{strip_bom}
use Rattle.csv.specs.declared.parser.State.TheVariants as st
use Rattle.mrp_rows.specs.Bundle.{ends_line}
use Rattle.mrp_rows.specs.Records.{records_in, records_of}
use Rattle.mrp_survey.specs.Lines.{ends_own_line, record_lines}

-- the line ends in bytes, behind a carriage return or not
unfoldable pub line_ends : Bool → List ℕ → ℕ
line_ends after_return [] = 0
line_ends after_return (byte ∷ bytes) = (if ends_own_line after_return byte then 1 else 0) + line_ends (byte == 13) bytes

-- a byte that ends no line, from which on csv reads so many records fewer than the text has; and the line of that byte, where the text
-- begins in this line
pub record BeginsIn (text : List ℕ) (line place own : ℕ) : Type 0 where
  pub front : List ℕ
  pub byte : ℕ
  pub rest : List ℕ
  pub parts : text ≡ front ++ byte ∷ rest
  pub inside : ends_line byte ≡ false
  pub reads : records_in st.StartRecord [] [] (byte ∷ rest) ≡ drop place (records_in st.StartRecord [] [] text)
  pub line_is : own ≡ line + line_ends false front

-- each record of a text has a line, that of its first byte
pub record AreLinesOf (line : ℕ) (text : List ℕ) : Type 0 where
  pub count : length (record_lines line text) ≡ length (records_of text)
  pub each : (place : ℕ) → place < length (records_of text) → BeginsIn (strip_bom text) line place (slice_index (record_lines line text) place)
