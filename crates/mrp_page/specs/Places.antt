-- Where the rows of each item stand together.
use Rattle.std.specs.Prelude.{ℕ, ◌≡◌, List, drop, not, take}
use Rattle.std.specs.HashMap as hash
use Rattle.std.specs.HashMap.{HashMap}
use Rattle.std.specs.List.{position, position_or_len}
use Rattle.std.specs.Option.{option_map}
use Rattle.std.specs.Str.{bytes_eq}
use Rattle.mrp_page.specs.declared.places.Stretch.{Stretch}
use Rattle.mrp_page.specs.Row.{RowView, is_of}
use denote.Ref.{Bor}

-- the rows of an item that stand together from this place on
abbrev pub stretch_at : List RowView → List ℕ → ℕ → Stretch
stretch_at rows name first = record { first = first; count = position_or_len (λ r. not (is_of name r)) (drop first rows) }

-- a map has the first stretch of each item that has one of the first rows, and of no other
abbrev pub HasStretches : {S : Type 0} → HashMap (Bor (List ℕ)) Stretch S → List RowView → ℕ → Type 0
HasStretches stretches rows seen = (name : List ℕ) → hash.get_by (λ k. bytes_eq name k.now) stretches ≡ option_map (stretch_at rows name) (position (is_of name) (take seen rows))
