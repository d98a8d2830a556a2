-- A text in an array of as many bytes as the longest name has, with zeros after it.
use Rattle.std.specs.Prelude.{ℕ, ◌≡◌, ◌≤◌, ◌-◌, ◌++◌, List, length, take, replicate}
use Rattle.std.proofs.Common.{arith, sym, length-take-le}
use Rattle.mrp_rows.specs.declared.name.TheConstants.{LONGEST_NAME}

-- a text with zeros up to as many bytes
abbrev pub padded : List ℕ → List ℕ
padded text = text ++ replicate (LONGEST_NAME - length text) 0

-- the first n bytes are the text, and the others are zeros
pub record IsPadded (n : ℕ) (bytes : List ℕ) : Type 0 where
  pub short : n ≤ LONGEST_NAME
  pub long : length bytes ≡ LONGEST_NAME
  pub zeros : bytes ≡ padded (take n bytes)

pub padded-take : (n : ℕ) (bytes : List ℕ) → IsPadded n bytes → padded (take n bytes) ≡ bytes
padded-take n bytes h = sym h.zeros

pub length-take : (n : ℕ) (bytes : List ℕ) → IsPadded n bytes → length (take n bytes) ≡ n
length-take n bytes h = length-take-le n bytes (omega (arith, h.short, h.long))
