-- What contracts see of a stream that gets a line in one write (profile).
use Rattle.std.specs.Prelude.{ℕ, ◌≡◌, ◌+◌, ◌-◌, ◌==◌, ◌||◌, ◌&&◌, if◌then◌else◌, Bool, nat_le, nat_lt, min, List, [], ◌∷◌, ◌++◌, Option, length, slice_index}
use Rattle.std.specs.Bool.{MatchBool}
use Rattle.std.specs.Io.KnownBytes.{Appends}
use Rattle.mrp_rows.specs.Told.{inner_of}
use Rattle.mrp_rows.specs.declared.told.Told.{Told}
use Rattle.mrp_open.specs.declared.whole_lines.TheConstants.{MOST_KEPT}
use Rattle.mrp_open.specs.declared.whole_lines.WholeLines.{WholeLines}

-- the stream itself
abbrev pub stream_of : {E : Type 0} → WholeLines E → E
stream_of lines = inner_of lines.inner

-- the same, with its calls
abbrev pub told_stream : {E : Type 0} → WholeLines E → Told E
told_stream lines = lines.inner

-- what is kept of a line that has not ended
abbrev pub kept_line : {E : Type 0} → WholeLines E → List ℕ
kept_line lines = lines.line.items

-- how long the first line of a text is, with its line feed
unfoldable pub line_len : List ℕ → ℕ
line_len [] = 0
line_len (byte ∷ rest) = if byte == 10 then 1 else line_len rest + 1

-- how many bytes are taken behind what is kept: up to the end of the line, as far as there is room
abbrev pub taken_len : List ℕ → List ℕ → ℕ
taken_len kept bytes = min (line_len bytes) (MOST_KEPT - length kept)

-- a line is written: it has ended, or there is no room for more
abbrev pub is_whole : List ℕ → Bool
is_whole line = nat_le MOST_KEPT (length line) || (nat_lt 0 (length line) && (slice_index line (length line - 1) == 10))

-- bytes are taken behind what is kept of a line: the stream gets all of it once it is written, and nothing before
abbrev pub TakesLines : {E : Type 0} → (E → Option (List ℕ)) → WholeLines E → WholeLines E → List ℕ → Type 0
TakesLines contents old new bytes =
    MatchBool (is_whole (kept_line old ++ bytes))
    (Appends (contents (stream_of old)) (contents (stream_of new)) (kept_line old ++ bytes) × (kept_line new ≡ []))
    ((stream_of new ≡ stream_of old) × (kept_line new ≡ kept_line old ++ bytes))
