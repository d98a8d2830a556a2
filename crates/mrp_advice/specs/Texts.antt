-- Pieces of a line (profile).
use Rattle.std.specs.Prelude.{ℕ, ◌==◌, if◌then◌else◌, List, [], ◌∷◌, ◌++◌, codes, decimal, flat_map}
use Rattle.mrp_advice.specs.Shown.{shown}

-- what makes a word a plural
abbrev pub plural : ℕ → List ℕ
plural number = if number == 1 then [] else codes "s"

-- a number, and what is counted
abbrev pub counted : ℕ → List ℕ → List ℕ
counted number word = decimal number ++ (codes " " ++ (word ++ plural number))

-- a cell, and what is said of it
abbrev pub of_cell : List ℕ → List ℕ → List ℕ
of_cell cell words = shown cell ++ words

-- pieces behind one another, each with this in front
abbrev pub behind_each : List ℕ → List (List ℕ) → List ℕ
behind_each separator pieces = flat_map (λ piece. separator ++ piece) pieces

-- pieces with this between them
abbrev pub listed : List ℕ → List (List ℕ) → List ℕ
listed separator [] = []
listed separator (piece ∷ pieces) = piece ++ behind_each separator pieces
