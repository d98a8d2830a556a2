-- In which line of a text each of its records begins: one more than the line ends in front of the record's first byte; a carriage
-- return and the line feed behind it are one (profile).
use Rattle.std.specs.Prelude.{ℕ, ◌==◌, ◌&&◌, ◌||◌, ◌+◌, Bool, true, false, not, if◌then◌else◌, List, [], ◌∷◌}
use Rattle.csv.specs.Reading.{strip_bom}
use Rattle.mrp_rows.specs.Bundle.{ends_line}
use Rattle.mrp_survey.specs.declared.lines.Reading.{Reading}
use Rattle.mrp_survey.specs.declared.lines.Spot.{Spot}
use Rattle.mrp_survey.specs.declared.lines.Spot.TheVariants as spot

-- behind a byte that no quote precedes
abbrev pub spot_behind : ℕ → Spot
spot_behind byte = if byte == 44 then spot.Front else if ends_line byte then spot.Between else spot.Bare

-- where the next byte stands
abbrev pub spot_after : Spot → ℕ → Spot
spot_after spot.Between byte = if byte == 34 then spot.Quoted else spot_behind byte
spot_after spot.Front byte = if byte == 34 then spot.Quoted else spot_behind byte
spot_after spot.Bare byte = spot_behind byte
spot_after spot.Quoted byte = if byte == 34 then spot.Behind else spot.Quoted
spot_after spot.Behind byte = if byte == 34 then spot.Quoted else spot_behind byte

abbrev pub is_between : Spot → Bool
is_between spot.Between = true
is_between spot.Front = false
is_between spot.Bare = false
is_between spot.Quoted = false
is_between spot.Behind = false

-- a record begins with a byte
abbrev pub begins_record : Spot → ℕ → Bool
begins_record at byte = is_between at && not (ends_line byte)

-- a byte is a quote or ends a line
abbrev pub is_special : ℕ → Bool
is_special byte = byte == 34 || byte == 10 || byte == 13

-- a byte ends a line
abbrev pub ends_own_line : Bool → ℕ → Bool
ends_own_line after_return byte = (byte == 13) || ((byte == 10) && not after_return)

-- at the start of a text that begins in this line
abbrev pub at_start : ℕ → Reading
at_start line = record { spot = spot.Between; after_return = false; line = line }

-- behind a byte
abbrev pub step_to : Reading → ℕ → Reading
step_to reading byte = record {
  spot = spot_after reading.spot byte;
  after_return = byte == 13;
  line = if ends_own_line reading.after_return byte then reading.line + 1 else reading.line;
}

-- behind bytes
unfoldable pub reading_behind : Reading → List ℕ → Reading
reading_behind reading [] = reading
reading_behind reading (byte ∷ bytes) = reading_behind (step_to reading byte) bytes

-- the line behind leading line ends
unfoldable pub line_behind : Reading → List ℕ → ℕ
line_behind reading [] = reading.line
line_behind reading (byte ∷ bytes) = if ends_line byte then line_behind (step_to reading byte) bytes else reading.line

-- the lines of the records that begin in these bytes
unfoldable pub lines_from : Reading → List ℕ → List ℕ
lines_from reading [] = []
lines_from reading (byte ∷ bytes) =
    if begins_record reading.spot byte then reading.line ∷ lines_from (step_to reading byte) bytes else lines_from (step_to reading byte) bytes

-- the line of each record's first byte, where the text begins in this line
abbrev pub record_lines : ℕ → List ℕ → List ℕ
record_lines line text = lines_from (at_start line) (strip_bom text)
