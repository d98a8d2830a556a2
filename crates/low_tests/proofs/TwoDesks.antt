-- The desks of a pair, for its tests.
use Rattle.std.proofs.Common.{◌≡◌, ℕ, ◌≤◌, ◌∙◌, inl, inr, List, [], ◌∷◌, refl, sym, subst, arith}
use Rattle.std.proofs.lemmas.Bool.{cases_lt}
use Rattle.mrp_turn.specs.Seen.{HasNumber}
use Rattle.mrp_desk.specs.Offices.{Desk}

-- two desks with the numbers 1 and 2 are all desks of an office of two
pub both_desks : (desks : List Desk) (first second : Desk) → desks ≡ first ∷ second ∷ [] → first.number ≡ 1 → second.number ≡ 2 → (n : ℕ) → 1 ≤ n → n ≤ 2 → HasNumber desks n
both_desks desks first second is one two n least most = subst (λ (x : List Desk). HasNumber x n) (sym is) (elim (cases_lt n 2) [
  | inl below ↦ let e : n ≡ 1 = omega (arith, below, least) in (first, (0, omega arith, refl), one ∙ sym e)
  | inr above ↦ let e : n ≡ 2 = omega (arith, above, most) in (second, (1, omega arith, refl), two ∙ sym e)
])
