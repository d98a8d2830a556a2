-- Writing a text whole, and reading a bundle whole, through streams that count their calls (profile).
use Rattle.std.specs.Prelude.{ℕ, ◌+◌, ◌≤◌, List, length, take, Option}
use Rattle.std.specs.Io.KnownBytes.{Appends, Consumes}
use Rattle.mrp_rows.specs.Told.{counted}

-- known bytes grow by a prefix of the text
abbrev pub WritesFront : Option (List ℕ) → Option (List ℕ) → List ℕ → Type 0
WritesFront old new text = (n : ℕ) × (n ≤ length text) × Appends old new (take n text)

-- a count rises by n, or up to its greatest value
abbrev pub RisesBy : ℕ → ℕ → ℕ → Type 0
RisesBy n old new = (counted n old ≤ new) × (new ≤ old + n)

-- known bytes lose these at their start, and the count of bytes rises by as many
abbrev pub Takes : Option (List ℕ) → Option (List ℕ) → ℕ → ℕ → List ℕ → Type 0
Takes old new before after bytes = Consumes old new bytes × RisesBy (length bytes) before after

-- known bytes lose a prefix, and the count of bytes rises by as many
abbrev pub TakesFront : Option (List ℕ) → Option (List ℕ) → ℕ → ℕ → Type 0
TakesFront old new before after = (bytes : List ℕ) × Takes old new before after bytes
