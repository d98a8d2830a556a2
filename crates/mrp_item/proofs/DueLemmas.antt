-- Quantities due, one row at a time.
use Rattle.std.proofs.Common.{◌≡◌, ◌≢◌, ◌∙◌, ℕ, zero, ◌+◌, ◌<◌, ◌≤◌, Bool, true, false, cond, eqb, List, [], ◌∷◌, length, take, map, get_or, replicate, refl, sym, ap, arith}
use Rattle.std.specs.Prelude.{filter, sum, sum_by}
use Rattle.std.proofs.lemmas.List.{length-replicate}
use Rattle.std.proofs.lemmas.Bool.{eqb-true, eqb-false, eq-eqb}
use Rattle.std.proofs.lemmas.List.Sums.{sum_by-cons, sum_by_more, sum_by_more_le}
use Rattle.mrp_phase.specs.Weeks.{row, in_week, with_week}
use Rattle.mrp_phase.proofs.WeekRows.{row_is, row_same, in_week_row, in_week_changed, in_week_kept, in_week_replicate, length-with_week}
use Rattle.mrp_item.specs.declared.due.Due.{Due}
use Rattle.mrp_item.specs.Dues.{due_in, due_sum, with_more}

-- a quantity that is due in a week, and 0 in another week
abbrev pub one_due : ℕ → Due → ℕ
one_due week d = cond (eqb d.week week) d.quantity 0

pub one_due-here : (d : Due) → one_due d.week d ≡ d.quantity
one_due-here d = rw (eq-eqb d.week d.week refl) refl

pub due_sum-by : (dues : List Due) (t : ℕ) → due_sum dues t ≡ sum_by (one_due t) dues
due_sum-by [] t = refl
due_sum-by (d ∷ dues) t = by (eqb d.week t) refl (due_sum-by dues t)
  where
    rest : List ℕ
    rest = due_in t dues

    by : (b : Bool) → eqb d.week t ≡ b → sum rest ≡ sum_by (one_due t) dues
        → sum (map (λ (x : Due). x.quantity) (cond b (d ∷ filter (λ x. eqb x.week t) dues) (filter (λ x. eqb x.week t) dues))) ≡ sum_by (one_due t) (d ∷ dues)
    by true e more = omega (arith, more, sum_by-cons (λ x. x) d.quantity rest, sum_by-cons (one_due t) d dues, ap (λ b. cond b d.quantity 0) e)
    by false e more = omega (arith, more, sum_by-cons (one_due t) d dues, ap (λ b. cond b d.quantity 0) e)

-- one more row
pub due_sum_more : (dues : List Due) (k : ℕ) (d : Due) (t : ℕ) → k < length dues → due_sum (take (k + 1) dues) t ≡ due_sum (take k dues) t + one_due t (get_or dues k d)
due_sum_more dues k d t h = due_sum-by (take (k + 1) dues) t ∙ sum_by_more (one_due t) dues k d h ∙ ap (λ n. n + one_due t (get_or dues k d)) (sym (due_sum-by (take k dues) t))

pub due_sum_within : (dues : List Due) (k : ℕ) (d : Due) (t : ℕ) → k < length dues → due_sum (take k dues) t + one_due t (get_or dues k d) ≤ due_sum dues t
due_sum_within dues k d t h = omega (arith, due_sum-by dues t, due_sum-by (take k dues) t, sum_by_more_le (one_due t) dues k d h)

-- a row with more in one of its weeks
pub with_more_row : (xs : List ℕ) (at more n : ℕ) → length xs ≡ n → 0 < at → at ≤ n → with_week xs at (in_week xs at + more) ≡ row n (with_more xs at more)
with_more_row xs at more n e a b =
    row_is (with_week xs at (in_week xs at + more)) (with_more xs at more) n (length-with_week xs at (in_week xs at + more) ∙ e)
    (λ t c d. by t (eqb at t) refl)
  where
    by : (t : ℕ) (same : Bool) → eqb at t ≡ same → in_week (with_week xs at (in_week xs at + more)) t ≡ in_week xs t + cond same more 0
    by t true f =
        let same : at ≡ t = eqb-true at t f in
        rw (← same) (in_week_changed xs at (in_week xs at + more) a (omega arith))
    by t false f =
        let other : t ≢ at = (let no : at ≢ t = eqb-false at t f in omega arith) in
        in_week_kept xs at t (in_week xs at + more) other ∙ omega arith

-- and with more in none of them
pub without_more_row : (xs : List ℕ) (at more n : ℕ) → length xs ≡ n → (0 < at → at ≤ n → zero ≡ 1) → xs ≡ row n (with_more xs at more)
without_more_row xs at more n e never =
    row_is xs (with_more xs at more) n e (λ t a b. by t a b (eqb at t) refl)
  where
    by : (t : ℕ) → 0 < t → t ≤ n → (same : Bool) → eqb at t ≡ same → in_week xs t ≡ in_week xs t + cond same more 0
    by t a b true f =
        let same : at ≡ t = eqb-true at t f in
        absurd (let no : zero ≡ 1 = never (omega arith) (omega arith) in omega arith)
    by t a b false f = omega arith

-- the row of what is due in the rows so far, and in the next
pub dated_more : (dues : List Due) (k : ℕ) (d : Due) (xs : List ℕ) (n : ℕ) → k < length dues → d ≡ get_or dues k d → xs ≡ row n (due_sum (take k dues))
    → row n (with_more xs d.week d.quantity) ≡ row n (due_sum (take (k + 1) dues))
dated_more dues k d xs n h is so_far =
    row_same (with_more xs d.week d.quantity) (due_sum (take (k + 1) dues)) n
    (λ t a b. ap (λ (x : Due). in_week xs t + one_due t x) is ∙ ap (λ ys. in_week ys t + one_due t (get_or dues k d)) so_far
    ∙ ap (λ m. m + one_due t (get_or dues k d)) (in_week_row (due_sum (take k dues)) n t a b) ∙ sym (due_sum_more dues k d t h))

pub dated_none : (n : ℕ) → replicate n 0 ≡ row n (due_sum [])
dated_none n = row_is (replicate n 0) (due_sum []) n (length-replicate n 0) (λ t a b. in_week_replicate n t)
