-- The whole lines of a text (profile).
use Rattle.std.specs.Prelude.{ℕ, ◌≡◌, false, if◌then◌else◌, List, [], ◌∷◌, ◌++◌}
use Rattle.std.specs.List.{list_any}
use Rattle.mrp_rows.specs.Bundle.{ends_line}

-- a text up to its last byte that ends a line
unfoldable pub whole_lines : List ℕ → List ℕ
whole_lines [] = []
whole_lines (byte ∷ rest) = if list_any ends_line (byte ∷ rest) then byte ∷ whole_lines rest else []

-- a line that a line feed ends, and nothing in front of it
pub record IsLine (line : List ℕ) : Type 0 where
  pub text : List ℕ
  pub is : line ≡ text ++ 10 ∷ []
  pub no_end : list_any ends_line text ≡ false
