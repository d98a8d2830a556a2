-- How often places are named, row by row.
use Rattle.std.proofs.Common.{◌≡◌, ◌≢◌, ◌∙◌, ◌⊎◌, inl, inr, ℕ, ◌+◌, ◌<◌, ◌≤◌, true, false, List, length, take, get_or, set, replicate, get_or-set_other, get_or-set_same, ap, arith, subst, sym}
use Rattle.std.specs.Prelude.{◌==◌}
use Rattle.std.proofs.lemmas.Bool.{cases_eq, ne_eqb}
use Rattle.std.proofs.lemmas.List.{get_or-replicate, length-replicate, length-set, length-take, take_all}
use Rattle.std.proofs.lemmas.List.FromFn.{fill_by_all}
use Rattle.std.proofs.lemmas.List.Sums.{count_by-le-length, count_by_more_no, count_by_more_yes}
use Rattle.mrp_warn.specs.Rows.{tally, times}

eqb-same : (n : ℕ) → (n == n) ≡ true
eqb-same n = grind arith

-- counts of the places that the rows so far name
pub record AreCounted (named : List ℕ) (count k : ℕ) (counts : List ℕ) : Type 0 where
  pub size : length counts ≡ count
  pub each : (place : ℕ) → place < count → get_or counts place 0 ≡ times (take k named) place

pub counted-none : (named : List ℕ) (count : ℕ) → AreCounted named count 0 (replicate count 0)
counted-none named count = record { size = length-replicate count 0; each = λ place within. get_or-replicate count place 0 0 within }

-- one more row, whose place is counted
pub counted-more : (named : List ℕ) (count k : ℕ) (counts : List ℕ) → AreCounted named count k counts → k < length named → get_or named k 0 < count
    → AreCounted named count (k + 1) (set counts (get_or named k 0) (get_or counts (get_or named k 0) 0 + 1))
counted-more named count k counts are here within = record { size = length-set counts own (get_or counts own 0 + 1) ∙ are.size; each = λ place inside. by place inside (cases_eq own place) }
  where
    own : ℕ
    own = get_or named k 0

    by : (place : ℕ) → place < count → (own ≡ place) ⊎ (own ≢ place) → get_or (set counts own (get_or counts own 0 + 1)) place 0 ≡ times (take (k + 1) named) place
    by place inside (inl same) =
        let fits : own < length counts = omega (arith, are.size, within) in
        let passes : (own == place) ≡ true = rw same (eqb-same place) in
        subst (λ (p : ℕ). get_or (set counts own (get_or counts own 0 + 1)) p 0 ≡ times (take (k + 1) named) place) same
        (get_or-set_same counts own (get_or counts own 0 + 1) 0 fits ∙ ap (λ (n : ℕ). n + 1) (are.each own within ∙ ap (times (take k named)) same) ∙ sym (count_by_more_yes (λ p. p == place) named k 0 here passes))
    by place inside (inr other) =
        let fails : (own == place) ≡ false = ne_eqb own place other in
        let kept : place ≢ own = λ (e : place ≡ own). other (sym e) in
        get_or-set_other counts own place (get_or counts own 0 + 1) 0 kept ∙ are.each place inside ∙ sym (count_by_more_no (λ p. p == place) named k 0 here fails)

-- one more row, whose place is past the last
pub counted-past : (named : List ℕ) (count k : ℕ) (counts : List ℕ) → AreCounted named count k counts → k < length named → count ≤ get_or named k 0 → AreCounted named count (k + 1) counts
counted-past named count k counts are here past = record {
  size = are.size;
  each = λ place inside.
      let other : get_or named k 0 ≢ place = λ (e : get_or named k 0 ≡ place). absurd (omega (arith, e, past, inside)) in
      are.each place inside ∙ sym (count_by_more_no (λ p. p == place) named k 0 here (ne_eqb (get_or named k 0) place other));
}

-- no place is named more often than there are rows
pub counted-within : (named : List ℕ) (count k : ℕ) (counts : List ℕ) (place : ℕ) → AreCounted named count k counts → place < count → get_or counts place 0 ≤ k
counted-within named count k counts place are inside =
    omega (arith, are.each place inside, count_by-le-length (λ p. p == place) (take k named), length-take k named)

-- all rows
pub counted-all : (named : List ℕ) (count k : ℕ) (counts : List ℕ) → AreCounted named count k counts → length named ≤ k → counts ≡ tally count named
counted-all named count k counts are whole =
    fill_by_all (times named) counts count 0 are.size (λ place inside. are.each place inside ∙ ap (λ (xs : List ℕ). times xs place) (take_all k named whole))
