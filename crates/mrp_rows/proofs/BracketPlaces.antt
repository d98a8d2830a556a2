-- Brackets in a text, by the brackets behind its first bytes.
use Rattle.std.proofs.Common.{◌≡◌, ◌∙◌, ◌+◌, ◌-◌, ◌<◌, ◌≤◌, ℕ, List, ap, arith, drop, get_or, subst, sym, true, ⊎_elim}
use Rattle.std.specs.Prelude.{◌==◌}
use Rattle.std.proofs.lemmas.Bool.{cases_eq, cases_lt, eq-eqb, eqb-true}
use Rattle.std.proofs.lemmas.List.{get_or-drop}

-- a bracket is where it is behind so many bytes
pub bracket-behind : (bytes rest : List ℕ) (from gap : ℕ) → rest ≡ drop from bytes → (get_or rest gap 0 == 91) ≡ true → get_or bytes (from + gap) 0 ≡ 91
bracket-behind bytes rest from gap is found = sym (get_or-drop from bytes gap 0) ∙ ap (λ (r : List ℕ). get_or r gap 0) (sym is) ∙ eqb-true (get_or rest gap 0) 91 found

-- none is among so many bytes where none is behind those in front
pub none-behind : (bytes rest : List ℕ) (from len : ℕ) → rest ≡ drop from bytes → ((k : ℕ) → 0 ≤ k → k < len → (get_or rest k 0 == 91) ≡ true → ⊥) → (k : ℕ) → from ≤ k → k < from + len → get_or bytes k 0 ≡ 91 → ⊥
none-behind bytes rest from len is none k low high found =
    let same : from + (k - from) ≡ k = omega (arith, low) in
    let here : get_or rest (k - from) 0 ≡ 91 = ap (λ (r : List ℕ). get_or r (k - from) 0) is ∙ get_or-drop from bytes (k - from) 0 ∙ ap (λ (n : ℕ). get_or bytes n 0) same ∙ found in
    let within : k - from < len = omega (arith, low, high) in
    none (k - from) (omega arith) within (eq-eqb (get_or rest (k - from) 0) 91 here)

-- what holds up to a place, there, and behind it up to the next holds up to the next
pub up-to-next : {P : ℕ → Type 0} (at next : ℕ) → ((k : ℕ) → k < at → P k) → P at → ((k : ℕ) → at + 1 ≤ k → k < next → P k) → (k : ℕ) → k < next → P k
up-to-next {P} at next below here behind k high =
    ⊎_elim (λ low. below k low) (λ from. ⊎_elim (λ e. subst P (sym e) here) (λ ne. behind k (omega (arith, from, ne)) high) (cases_eq k at)) (cases_lt k at)
