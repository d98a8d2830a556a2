-- Section lines, byte by byte.
use Rattle.std.proofs.Common.{◌≡◌, ◌||◌, ℕ, Bool, true, false, List, [], ◌∷◌, refl, sym}
use Rattle.std.specs.Prelude.{◌==◌, ◌&&◌}
use Rattle.std.specs.List.{list_any}
use Rattle.mrp_rows.specs.Bundle.{ends_line, is_section_line, lines_of}
use Rattle.mrp_rows.specs.Together.{has_section_line}

-- a section line is in bytes that begin a line, or that go on with one
unfoldable pub section_at : Bool → List ℕ → Bool
section_at begins [] = false
section_at begins (x ∷ xs) = (begins && (x == 91)) || section_at (ends_line x) xs

pub section-none : (begins : Bool) → section_at begins [] ≡ false
unfolding section_at
section-none begins = refl

pub section-on : (begins : Bool) (x : ℕ) (xs : List ℕ) → section_at begins (x ∷ xs) ≡ ((begins && (x == 91)) || section_at (ends_line x) xs)
unfolding section_at
section-on begins x xs = refl

behind : List (List ℕ) → List (List ℕ)
behind [] = []
behind (l ∷ ls) = ls

has : Bool → List (List ℕ) → Bool
has true ls = list_any is_section_line ls
has false ls = list_any is_section_line (behind ls)

section-lines : (xs : List ℕ) (begins : Bool) → section_at begins xs ≡ has begins (lines_of xs)
unfolding section_at lines_of has behind
section-lines [] true = refl
section-lines [] false = refl
section-lines (x ∷ xs) begins = by (ends_line x) refl (lines_of xs) refl begins (λ b. section-lines xs b)
  where
    by : (e : Bool) → ends_line x ≡ e → (ls : List (List ℕ)) → lines_of xs ≡ ls → (b : Bool) → ((c : Bool) → section_at c xs ≡ has c (lines_of xs)) → section_at b (x ∷ xs) ≡ has b (lines_of (x ∷ xs))
    by true is ls f true more = rw (is, more true) refl
    by true is ls f false more = rw (is, more true) refl
    by false is [] f true more = rw (is, more false, f) refl
    by false is [] f false more = rw (is, more false, f) refl
    by false is (l ∷ ls) f true more = rw (is, more false, f) refl
    by false is (l ∷ ls) f false more = rw (is, more false, f) refl

pub section-is : (xs : List ℕ) → has_section_line xs ≡ section_at true xs
unfolding has
section-is xs = sym (section-lines xs true)
