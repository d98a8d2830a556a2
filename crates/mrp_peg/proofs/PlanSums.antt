-- The pegs of each item of a plan add up to its requirements and to its supplies.
use Rattle.std.proofs.Common.{◌≡◌, ◌≢◌, ◌∙◌, ℕ, zero, suc, ◌+◌, ◌<◌, ◌≤◌, inl, inr, List, [], ◌∷◌, ◌++◌, map, refl, sym, ap, subst, arith}
use Rattle.std.specs.Prelude.{flat_map, ◌==◌}
use Rattle.std.specs.List.{range_with_len}
use Rattle.std.proofs.lemmas.Bool.{cases_eq, eq-eqb, ne_eqb}
use Rattle.std.proofs.lemmas.List.{append-nil}
use Rattle.std.proofs.lemmas.List.Elements.{filter-append}
use Rattle.mrp_item.specs.Inputs.{Inputs, count}
use Rattle.mrp_item.specs.declared.supplies.Supplied.{Supplied}
use Rattle.mrp_peg.specs.declared.peg.Need.{Need}
use Rattle.mrp_peg.specs.declared.peg.Peg.{Peg}
use Rattle.mrp_peg.specs.Laws.{AddUpToRequirements, AddUpToSupplies}
use Rattle.mrp_peg.specs.Matching.{peg_of}
use Rattle.mrp_peg.specs.Pegging.{pegs_for, pegs_of, plan_pegs, requirements, supplies}
use Rattle.mrp_peg.specs.Units.{Match, matches}
use Rattle.mrp_peg.proofs.ItemSums.{to-supplies}

own-kept : (i : ℕ) (ms : List (Match Need Supplied)) → pegs_for i (map (peg_of i) ms) ≡ map (peg_of i) ms
own-kept i [] = refl
own-kept i (m ∷ ms) = rw (eq-eqb i i refl) (ap (λ (gs : List Peg). peg_of i m ∷ gs) (own-kept i ms))

others-gone : (i j : ℕ) → j ≢ i → (ms : List (Match Need Supplied)) → pegs_for i (map (peg_of j) ms) ≡ []
others-gone i j ne [] = refl
others-gone i j ne (m ∷ ms) = rw (ne_eqb j i ne) (others-gone i j ne ms)

module _ (s : Inputs) (i : ℕ) where
  own : pegs_for i (pegs_of s i) ≡ pegs_of s i
  unfolding pegs_of
  own = own-kept i (matches (requirements s i) (supplies s i))

  none : (j : ℕ) → j ≢ i → pegs_for i (pegs_of s j) ≡ []
  unfolding pegs_of
  none j ne = others-gone i j ne (matches (requirements s j) (supplies s j))

  one-more : (a n : ℕ) → pegs_for i (flat_map (pegs_of s) (range_with_len a (suc n))) ≡ pegs_for i (pegs_of s a) ++ pegs_for i (flat_map (pegs_of s) (range_with_len (a + 1) n))
  one-more a n = filter-append (λ (g : Peg). g.item == i) (pegs_of s a) (flat_map (pegs_of s) (range_with_len (a + 1) n))

  past : (a n : ℕ) → i < a → pegs_for i (flat_map (pegs_of s) (range_with_len a n)) ≡ []
  past a zero low = refl
  past a (suc n) low =
      let other : a ≢ i = omega arith in
      one-more a n ∙ ap (λ (gs : List Peg). gs ++ pegs_for i (flat_map (pegs_of s) (range_with_len (a + 1) n))) (none a other) ∙ past (a + 1) n (omega arith)

  among : (a n : ℕ) → a ≤ i → i < a + n → pegs_for i (flat_map (pegs_of s) (range_with_len a n)) ≡ pegs_of s i
  among a zero low high = absurd (omega arith)
  among a (suc n) low high = elim (cases_eq a i) [
    | inl same ↦
        one-more a n
        ∙ ap (λ (gs : List Peg). pegs_for i (pegs_of s a) ++ gs) (past (a + 1) n (omega arith))
        ∙ append-nil (pegs_for i (pegs_of s a))
        ∙ ap (λ (k : ℕ). pegs_for i (pegs_of s k)) same
        ∙ own
    | inr other ↦
        one-more a n
        ∙ ap (λ (gs : List Peg). gs ++ pegs_for i (flat_map (pegs_of s) (range_with_len (a + 1) n))) (none a other)
        ∙ among (a + 1) n (omega arith) (omega arith)
  ]

  -- those of a plan's pegs that are the item's
  for-item : i < count s → pegs_for i (plan_pegs s) ≡ pegs_of s i
  for-item within = among 0 (count s) (omega arith) (omega arith)

  pub plan-requirements : i < count s → AddUpToRequirements s i (pegs_of s i) → AddUpToRequirements s i (pegs_for i (plan_pegs s))
  plan-requirements within sums = subst (AddUpToRequirements s i) (sym (for-item within)) sums

  pub plan-supplies : i < count s → AddUpToSupplies s i (pegs_for i (plan_pegs s))
  plan-supplies within = subst (AddUpToSupplies s i) (sym (for-item within)) (to-supplies s i)
