-- The names of items, and which of them are the same but for capitals.
use Rattle.std.specs.Prelude.{ℕ, ◌+◌, ◌&&◌, nat_le, if◌then◌else◌, List, map, Option}
use Rattle.std.specs.List.{slice_get}
use Rattle.std.specs.Option.{option_map}
use Rattle.mrp_tables.specs.declared.item.Item.{Item}

-- a letter in small
abbrev pub small : ℕ → ℕ
small byte = if nat_le 65 byte && nat_le byte 90 then byte + 32 else byte

-- a name in small letters
abbrev pub folded : List ℕ → List ℕ
folded name = map small name

-- the name of the item at a place, if there is one
abbrev pub name_at : List Item → ℕ → Option (List ℕ)
name_at items place = option_map (λ i. i.name) (slice_get items place)
