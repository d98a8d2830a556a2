-- Pieces of a page.
use Rattle.std.specs.Prelude.{ℕ, Bool, List, ◌++◌, ◌||◌, codes, if◌then◌else◌}
use Rattle.mrp_page.specs.Escaped.{escaped}
use Rattle.mrp_page.specs.Row.{same_text}

-- a number is zero, with or without three decimals
abbrev pub is_zero : List ℕ → Bool
is_zero text = same_text text (codes "0") || same_text text (codes "0.000")

-- the tag before a number; zeros are pale
abbrev pub number_tag : List ℕ → List ℕ
number_tag text = if is_zero text then codes "<td class=z>" else codes "<td>"

-- a cell of a table with a number
abbrev pub number_html : List ℕ → List ℕ
number_html text = number_tag text ++ (escaped text ++ codes "</td>")

-- a cell of a table in which 0 is left empty
abbrev pub flow_html : List ℕ → List ℕ
flow_html text = if is_zero text then codes "<td></td>" else codes "<td>" ++ (escaped text ++ codes "</td>")
