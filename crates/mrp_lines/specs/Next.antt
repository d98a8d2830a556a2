-- What bytes begin with that are an input's last or fill the room to read ahead.
use Rattle.std.specs.Prelude.{ℕ, ◌≡◌, ◌<◌, List, length}
use Rattle.mrp_lines.specs.declared.lines.Next.{Next}
use Rattle.mrp_lines.specs.declared.lines.Next.TheVariants as next
use Rattle.mrp_lines.specs.declared.window.TheConstants.{ROOM}
use Rattle.mrp_lines.specs.Lines.{AreLinesAt, IsEndless}

-- the rest of the input, or, where there is no room for more, lines, or a line that is too long
abbrev pub IsRest : List ℕ → Next → Type 0
IsRest bytes (next.Rest len) = (len ≡ length bytes) × (length bytes < ROOM)
IsRest bytes (next.Lines len) = AreLinesAt len bytes
IsRest bytes next.Long = IsEndless bytes
IsRest bytes (next.Line len) = ⊥
