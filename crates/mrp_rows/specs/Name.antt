-- Names (profile): 1 to `LONGEST_NAME` bytes of printable ASCII, no space at either end, no leading bracket.
use Rattle.std.specs.Prelude.{ℕ, ◌==◌, ◌&&◌, ◌-◌, Bool, not, nat_le, if◌then◌else◌, List, length, slice_index, Option, Some, None}
use Rattle.std.specs.List.{list_all}
use Rattle.mrp_rows.specs.declared.name.TheConstants.{LONGEST_NAME}

-- a byte from the space to the tilde
abbrev pub is_printable : ℕ → Bool
is_printable byte = nat_le 32 byte && nat_le byte 126

-- what a name may begin and end with: no space, and no leading bracket
abbrev pub has_name_ends : ℕ → ℕ → Bool
has_name_ends first last = not (first == 32) && not (last == 32) && not (first == 91)

-- a text is a name
abbrev pub is_name : List ℕ → Bool
is_name text =
    nat_le 1 (length text) && nat_le (length text) LONGEST_NAME && list_all is_printable text
    && has_name_ends (slice_index text 0) (slice_index text (length text - 1))

-- a text as a name, if it is one
abbrev pub name_in : List ℕ → Option (List ℕ)
name_in text = if is_name text then Some text else None
