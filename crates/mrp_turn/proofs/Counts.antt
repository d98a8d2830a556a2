-- How many entries a log has under the numbers of its seats.
use Rattle.std.specs.Prelude.{sum_by}
use Rattle.std.specs.List.{range_with_len}
use Rattle.std.proofs.Common.{ℕ, zero, suc, ◌≡◌, ◌≢◌, ◌+◌, ◌<◌, ◌≤◌, ◌==◌, inl, inr, Bool, true, false, if◌then◌else◌, List, [], ◌∷◌, length, refl, arith}
use Rattle.std.proofs.lemmas.Bool.{cases_eq}
use Rattle.std.proofs.lemmas.Bool.Decides.{nat_tests}
use Rattle.std.proofs.lemmas.List.Sums.{sum_by-cons}
use Rattle.mrp_turn.specs.declared.log.Entry.{Entry}
use Rattle.mrp_turn.specs.Log.{AreFrom, entries_by}

-- 1 for a number, and 0 for each other
abbrev one_at : ℕ → ℕ → ℕ
one_at who n = if who == n then 1 else 0

one_here : (who n : ℕ) → who ≡ n → one_at who n ≡ 1
one_here who n e = grind (arith, nat_tests)

none_there : (who n : ℕ) → who ≢ n → one_at who n ≡ 0
none_there who n ne = grind (arith, nat_tests)

none_above : (who first count : ℕ) → who < first → sum_by (one_at who) (range_with_len first count) ≡ 0
none_above who first zero below = refl
none_above who first (suc more) below =
    omega (
      arith,
      sum_by-cons (one_at who) first (range_with_len (first + 1) more),
      none_there who first (λ (e : who ≡ first). omega (arith, e, below)),
      none_above who (first + 1) more (omega (arith, below)),
    )

one_among : (who first count : ℕ) → first ≤ who → who < first + count → sum_by (one_at who) (range_with_len first count) ≡ 1
one_among who first zero low high = absurd (omega (arith, low, high))
one_among who first (suc more) low high = elim (cases_eq who first) [
  | inl here ↦
      omega (arith, sum_by-cons (one_at who) first (range_with_len (first + 1) more), one_here who first here, none_above who (first + 1) more (omega (arith, here)))
  | inr other ↦
      omega (
        arith,
        sum_by-cons (one_at who) first (range_with_len (first + 1) more),
        none_there who first other,
        one_among who (first + 1) more (omega (arith, low, other)) (omega (arith, high)),
      )
]

sum_both : (f g h : ℕ → ℕ) (xs : List ℕ) → ((n : ℕ) → f n ≡ g n + h n) → sum_by f xs ≡ sum_by g xs + sum_by h xs
sum_both f g h [] same = refl
sum_both f g h (x ∷ xs) same = omega (arith, sum_by-cons f x xs, sum_by-cons g x xs, sum_by-cons h x xs, same x, sum_both f g h xs same)

sum_none : (xs : List ℕ) → sum_by (λ (n : ℕ). 0) xs ≡ 0
sum_none [] = refl
sum_none (x ∷ xs) = omega (arith, sum_by-cons (λ (n : ℕ). 0) x xs, sum_none xs)

module _ {C R : Type 0} where
  one_more_under : (n : ℕ) (e : Entry C R) (es : List (Entry C R)) → length (entries_by n (e ∷ es)) ≡ one_at e.who n + length (entries_by n es)
  one_more_under n e es = by (e.who == n)
    where
      by : (v : Bool) → length (if v then e ∷ entries_by n es else entries_by n es) ≡ (if v then 1 else 0) + length (entries_by n es)
      by true = omega arith
      by false = omega arith

  -- counted by the numbers of its seats, a log has all its entries
  pub all_counted : (seats : ℕ) (log : List (Entry C R)) → AreFrom seats log → sum_by (λ n. length (entries_by n log)) (range_with_len 1 seats) ≡ length log
  all_counted seats [] from = sum_none (range_with_len 1 seats)
  all_counted seats (e ∷ es) from =
      omega (
        arith,
        sum_both (λ n. length (entries_by n (e ∷ es))) (one_at e.who) (λ n. length (entries_by n es)) (range_with_len 1 seats) (λ n. one_more_under n e es),
        one_among e.who 1 seats from.0.0 (omega (arith, from.0.1)),
        all_counted seats es from.1,
      )
