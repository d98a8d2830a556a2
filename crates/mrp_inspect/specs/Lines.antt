-- In which line a byte of a file stands: one more than the line ends in front of it; a carriage return and the line feed behind it are
-- one (profile).
use Rattle.std.specs.Prelude.{ℕ, ◌+◌, ◌==◌, false, if◌then◌else◌, List, [], ◌∷◌}
use Rattle.mrp_survey.specs.Lines.{ends_own_line}
use Rattle.mrp_inspect.specs.declared.lines.Counter.{Counter}

-- at the start of a file
abbrev pub at_front : Counter
at_front = record { line = 1; after_return = false }

-- behind one byte more
abbrev pub counted : Counter → ℕ → Counter
counted counter byte = record {
  line = if ends_own_line counter.after_return byte then counter.line + 1 else counter.line;
  after_return = byte == 13;
}

-- behind more bytes
unfoldable pub counted_all : Counter → List ℕ → Counter
counted_all counter [] = counter
counted_all counter (byte ∷ bytes) = counted_all (counted counter byte) bytes
