-- A text as lines show it (profile).
use Rattle.std.specs.Prelude.{ℕ, zero, suc, ◌==◌, ◌&&◌, ◌/◌, ◌%◌, nat_le, if◌then◌else◌, Bool, List, [], ◌∷◌, ◌++◌, codes}
use Rattle.std.specs.Char.{digit_char}
use Rattle.mrp_advice.specs.declared.sign.TheConstants.{MOST_SIGNS}

-- a byte of printable ASCII, which is shown as it is
abbrev pub is_printable : ℕ → Bool
is_printable byte = nat_le 0x20 byte && nat_le byte 0x7E

-- two bytes that are one letter in UTF-8, which is shown as it is
abbrev pub are_letter : ℕ → ℕ → Bool
are_letter first second = (nat_le 0xC3 first && nat_le first 0xD4) && (nat_le 0x80 second && nat_le second 0xBF)

-- any other byte
abbrev pub hex : ℕ → List ℕ
hex byte = codes "\\x" ++ (digit_char (byte / 16) ∷ digit_char (byte % 16) ∷ [])

abbrev pub escape : ℕ → List ℕ
escape byte =
    if byte == 9 then codes "\\t"
    else if byte == 10 then codes "\\n"
    else if byte == 13 then codes "\\r"
    else hex byte

-- what a byte is shown as where it is no part of a letter
abbrev pub byte_sign : ℕ → List ℕ
byte_sign byte = if is_printable byte then byte ∷ [] else escape byte

-- the first sign of a text that begins with this byte
abbrev pub first_sign : ℕ → List ℕ → List ℕ
first_sign first [] = byte_sign first
first_sign first (second ∷ others) = if are_letter first second then first ∷ second ∷ [] else byte_sign first

-- what stands behind that sign
abbrev pub behind_sign : ℕ → List ℕ → List ℕ
behind_sign first [] = []
behind_sign first (second ∷ others) = if are_letter first second then others else second ∷ others

-- so many signs of a text, and `..` for the rest
unfoldable pub signs : ℕ → List ℕ → List ℕ
signs zero [] = []
signs zero (first ∷ others) = codes ".."
signs (suc left) [] = []
signs (suc left) (first ∷ others) = first_sign first others ++ signs left (behind_sign first others)

-- a text in single quotes
abbrev pub shown : List ℕ → List ℕ
shown text = codes "'" ++ (signs MOST_SIGNS text ++ codes "'")
