-- The lowest bit of a mask.
use Rattle.std.specs.Prelude.{ℕ, ◌==◌, if◌then◌else◌}
use Rattle.std.specs.Int.{trailing_zeros, w64}

-- its place, or the count of lanes where no bit is set
abbrev pub first_set : ℕ → ℕ → ℕ
first_set mask lanes = if mask == 0 then lanes else trailing_zeros w64 mask
