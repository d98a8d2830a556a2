-- What a text begins as (profile).
use Rattle.std.specs.Prelude.{ℕ, ◌==◌, ◌||◌, Bool, false, if◌then◌else◌, nat_eq, List, [], ◌∷◌}
use Rattle.std.specs.List.{starts_with}
use Rattle.mrp_survey.specs.declared.front.Front.{Front}
use Rattle.mrp_survey.specs.declared.front.Front.TheVariants as front

-- the first or the second byte is 0
abbrev pub has_early_zero : List ℕ → Bool
has_early_zero [] = false
has_early_zero (first ∷ []) = first == 0
has_early_zero (first ∷ second ∷ rest) = (first == 0) || (second == 0)

-- a byte order mark of UTF-16, or an early 0
abbrev pub is_utf16 : List ℕ → Bool
is_utf16 text = starts_with nat_eq text (255 ∷ 254 ∷ []) || starts_with nat_eq text (254 ∷ 255 ∷ []) || has_early_zero text

-- a zip archive, or the older form of workbooks
abbrev pub is_workbook : List ℕ → Bool
is_workbook text = starts_with nat_eq text (80 ∷ 75 ∷ 3 ∷ 4 ∷ []) || starts_with nat_eq text (208 ∷ 207 ∷ 17 ∷ 224 ∷ [])

abbrev pub front_of : List ℕ → Front
front_of text = if is_utf16 text then front.Utf16 else if is_workbook text then front.Workbook else front.Other
