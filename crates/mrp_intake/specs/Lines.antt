-- The lines of an input (profile).
use Rattle.std.specs.Prelude.{ℕ, ◌+◌, ◌==◌, if◌then◌else◌, List, [], ◌∷◌, map, take}
use Rattle.std.specs.List.{onto_first}
use Rattle.mrp_intake.specs.declared.lines.TheConstants.{LONGEST_LINE}

-- the lines of a text: each up to a line feed, with it, and what stands behind the last one
unfoldable pub lines_of : List ℕ → List (List ℕ)
lines_of [] = []
lines_of (byte ∷ rest) = if byte == 10 then (byte ∷ []) ∷ lines_of rest else onto_first byte (lines_of rest)

-- of a line that is too long no more is told than shows it
abbrev pub told_of : List ℕ → List ℕ
told_of line = take (LONGEST_LINE + 1) line

abbrev pub told_lines : List ℕ → List (List ℕ)
told_lines text = map told_of (lines_of text)
