-- Sums of each week, one row at a time.
use Rattle.std.proofs.Common.{◌≡◌, ◌≢◌, ◌∙◌, ℕ, zero, suc, ◌+◌, ◌*◌, ◌<◌, ◌≤◌, cond, List, [], ◌∷◌, length, get_or, replicate, set, take, refl, sym, ap, arith, inl, inr, get_or-set_same, get_or-set_other}
use Rattle.std.proofs.lemmas.Bool.{cases_eq, ne_eqb}
use Rattle.mrp_item.specs.declared.due.Due.{Due}
use Rattle.mrp_item.specs.Dues.{due_sum}
use Rattle.mrp_item.proofs.DueLemmas.{due_sum_more, one_due, one_due-here}

pub none-due : (dues : List Due) (week : ℕ) → due_sum (take 0 dues) week ≡ 0
none-due [] week = refl
none-due (d ∷ dues) week = refl

-- one more row is added in its week
pub sums-more : (sums : List ℕ) (dues : List Due) (k : ℕ) (d : Due) (at more : ℕ) → k < length dues → d ≡ get_or dues k d → at ≡ d.week → more ≡ d.quantity → at < length sums
    → ((week : ℕ) → get_or sums week 0 ≡ due_sum (take k dues) week) → (week : ℕ) → get_or (set sums at (get_or sums at 0 + more)) week 0 ≡ due_sum (take (k + 1) dues) week
sums-more sums dues k d at more h is here adds within summed week = elim (cases_eq week at) [
  | inl same ↦
      let same_week : d.week ≡ week = sym here ∙ sym same in
      rw same (get_or-set_same sums at (get_or sums at 0 + more) 0 within
      ∙ ap (λ x. x + more) (summed at)
      ∙ ap (λ x. due_sum (take k dues) at + x) (adds ∙ sym (one_due-here d) ∙ ap (λ t. one_due t d) (sym here) ∙ ap (one_due at) is)
      ∙ sym (due_sum_more dues k d at h))
  | inr other ↦
      let apart : d.week ≢ week = λ e. other (sym e ∙ sym here) in
      get_or-set_other sums at week (get_or sums at 0 + more) 0 other
      ∙ summed week
      ∙ sym (due_sum_more dues k d week h ∙ ap (λ x. due_sum (take k dues) week + x) (ap (one_due week) (sym is) ∙ ap (λ b. cond b d.quantity 0) (ne_eqb d.week week apart)) ∙ omega arith)
]

pub bound-more : (sums : List ℕ) (k at more most : ℕ) → more ≤ most → at < length sums → ((week : ℕ) → get_or sums week 0 ≤ k * most)
    → (week : ℕ) → get_or (set sums at (get_or sums at 0 + more)) week 0 ≤ (k + 1) * most
bound-more sums k at more most h within bounded week = elim (cases_eq week at) [
  | inl same ↦ rw (same, get_or-set_same sums at (get_or sums at 0 + more) 0 within) (omega (arith, h, bounded at))
  | inr other ↦ rw (get_or-set_other sums at week (get_or sums at 0 + more) 0 other) (omega (arith, bounded week))
]

-- zeros, and nothing past them
pub zeros-at : (n week : ℕ) → get_or {A = ℕ} (replicate n 0) week 0 ≡ 0
zeros-at zero zero = refl
zeros-at zero (suc week) = refl
zeros-at (suc n) zero = refl
zeros-at (suc n) (suc week) = zeros-at n week
