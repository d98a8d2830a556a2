-- Escaping texts for HTML, and how a browser reads them back.
use Rattle.std.specs.Prelude.{ℕ, List, [], ◌∷◌, ◌++◌, Option, Some, None, codes, bytes_eq, Bool, flat_map, if◌then◌else◌, ◌==◌, ◌||◌, option_map}

-- a byte: `<`, `>`, `&`, `"` and `'` as character references
abbrev pub escaped_byte : ℕ → List ℕ
escaped_byte byte =
    if byte == 60 then codes "&lt;"
    else if byte == 62 then codes "&gt;"
    else if byte == 38 then codes "&amp;"
    else if byte == 34 then codes "&quot;"
    else if byte == 39 then codes "&#39;"
    else byte ∷ []

-- a text, byte by byte
unfoldable pub escaped : List ℕ → List ℕ
escaped text = flat_map escaped_byte text

-- a byte that an escaped text may not contain as such; `&` begins a reference
abbrev pub is_special : ℕ → Bool
is_special byte = (byte == 60) || (byte == 62) || (byte == 34) || (byte == 39)

-- the byte that a reference of this name stands for
unfoldable pub referred : List ℕ → Option ℕ
referred name =
    if bytes_eq name (codes "lt") then Some 60
    else if bytes_eq name (codes "gt") then Some 62
    else if bytes_eq name (codes "amp") then Some 38
    else if bytes_eq name (codes "quot") then Some 34
    else if bytes_eq name (codes "#39") then Some 39
    else None

-- a byte before the rest, if both are read
abbrev pub before : Option ℕ → Option (List ℕ) → Option (List ℕ)
before None rest = None
before (Some byte) rest = option_map (λ text. byte ∷ text) rest

-- what a browser reads, given the part of a reference's name that it has read, if it is in one; none if one of the five
-- characters occurs as such: `<`, `>`, `"` or `'`, or a `&` that begins none of the references
unfoldable pub read_from : Option (List ℕ) → List ℕ → Option (List ℕ)
read_from None [] = Some []
read_from (Some name) [] = None
read_from None (byte ∷ rest) =
    if byte == 38 then read_from (Some []) rest
    else if is_special byte then None
    else before (Some byte) (read_from None rest)
read_from (Some name) (byte ∷ rest) =
    if byte == 59 then before (referred name) (read_from None rest)
    else read_from (Some (name ++ (byte ∷ []))) rest

abbrev pub read_back : List ℕ → Option (List ℕ)
read_back html = read_from None html
