-- The sum of the tables that a journal's answers are given from (profile; SHA-256 of FIPS 180-4).
use Rattle.std.specs.Prelude.{ℕ, List, [], ◌∷◌, ◌++◌}
use Rattle.hex.specs.Hex.{encode_lower}
use Rattle.sha2.specs.Sha256.{sha256}
use Rattle.mrp_rows.specs.Joined.{Part, joined}

-- the sum of the bundle of tables, in hexadecimal digits, and a line feed
abbrev pub sum_text : List Part → List ℕ
sum_text tables = encode_lower (sha256 (joined tables)) ++ 10 ∷ []
