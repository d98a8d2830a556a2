-- What a record's first cell counts as (profile).
use Rattle.std.specs.Prelude.{ℕ, ◌==◌, ◌-◌, Bool, List, drop, length, take, Option}
use Rattle.std.specs.List.{prefix_len, suffix_len}
use Rattle.mrp_rows.specs.Name.{name_in}

abbrev pub is_space : ℕ → Bool
is_space byte = byte == 32

-- a text without its leading spaces
abbrev pub without_front : List ℕ → List ℕ
without_front text = drop (prefix_len is_space text) text

-- a text without its trailing spaces
abbrev pub without_back : List ℕ → List ℕ
without_back text = take (length text - suffix_len is_space text) text

-- a text without the spaces at its ends
abbrev pub trimmed : List ℕ → List ℕ
trimmed text = without_back (without_front text)

abbrev pub known_name : List ℕ → Option (List ℕ)
known_name cell = name_in (trimmed cell)
