-- A week's seven flags.
use Rattle.std.proofs.Common.{◌≡◌, ℕ, List, [], ◌∷◌, length, get_or, refl, arith, Bool}
use Rattle.std.specs.Prelude.{◌==◌}
use Rattle.mrp_tables.specs.Calendar.{flags_of}

abbrev pub is_one : List ℕ → ℕ → Bool
is_one cell k = get_or cell k 0 == 49

pub flags-seven : (cell : List ℕ) → length cell ≡ 7
    → is_one cell 0 ∷ is_one cell 1 ∷ is_one cell 2 ∷ is_one cell 3 ∷ is_one cell 4 ∷ is_one cell 5 ∷ is_one cell 6 ∷ [] ≡ flags_of cell
flags-seven (a ∷ b ∷ c ∷ d ∷ e ∷ f ∷ g ∷ []) h = refl
flags-seven (a ∷ b ∷ c ∷ d ∷ e ∷ f ∷ g ∷ x ∷ xs) h = absurd (omega arith)
flags-seven (a ∷ b ∷ c ∷ d ∷ e ∷ f ∷ []) h = absurd (omega arith)
flags-seven (a ∷ b ∷ c ∷ d ∷ e ∷ []) h = absurd (omega arith)
flags-seven (a ∷ b ∷ c ∷ d ∷ []) h = absurd (omega arith)
flags-seven (a ∷ b ∷ c ∷ []) h = absurd (omega arith)
flags-seven (a ∷ b ∷ []) h = absurd (omega arith)
flags-seven (a ∷ []) h = absurd (omega arith)
flags-seven [] h = absurd (omega arith)
