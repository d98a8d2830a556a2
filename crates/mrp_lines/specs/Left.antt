-- What is left of an input whose lines are taken.
use Rattle.std.specs.Prelude.{ℕ, ◌≡◌, List, Option, length}
use Rattle.std.specs.Io.KnownBytes.{IsAtEnd, prepend_known}
use Rattle.mrp_lines.specs.declared.lines.Lines.{Lines}
use Rattle.mrp_lines.specs.declared.lines.Next.{Next}
use Rattle.mrp_lines.specs.declared.lines.Next.TheVariants as next
use Rattle.mrp_lines.specs.Lines.{AreLinesAt, IsEndless, IsLineAt}

-- the bytes that were read ahead
abbrev pub ahead_of : {R : Type 0} → Lines R → List ℕ
ahead_of lines = lines.window

-- these, and then what the input still gives, where that is known
abbrev pub left_of : {R : Type 0} → (R → Option (List ℕ)) → Lines R → Option (List ℕ)
left_of remaining lines = prepend_known (ahead_of lines) (remaining lines.input)

-- what an input begins with: a line without quotes, lines, its rest, or a line that is too long
abbrev pub IsNext : {R : Type 0} → (R → Option (List ℕ)) → Lines R → Next → Type 0
IsNext remaining lines (next.Line len) = IsLineAt len (ahead_of lines)
IsNext remaining lines (next.Lines len) = AreLinesAt len (ahead_of lines)
IsNext remaining lines (next.Rest len) = (len ≡ length (ahead_of lines)) × IsAtEnd (remaining lines.input)
IsNext remaining lines next.Long = IsEndless (ahead_of lines)
