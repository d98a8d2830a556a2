-- What is available in a row of promising is the least of what is uncommitted.
use Rattle.std.proofs.Common.{◌≡◌, ◌∙◌, ℕ, zero, suc, ◌+◌, ◌-◌, ◌≤◌, ◌<◌, min, List, length, inl, inr, ap, arith}
use Rattle.std.proofs.lemmas.Bool.{cases_lt}
use Rattle.mrp_phase.specs.Weeks.{in_week, row, sum_to, with_week}
use Rattle.mrp_phase.proofs.WeekRows.{in_week_row, sum_to_suc}
use Rattle.mrp_master.specs.Supply.{IsLeastFrom, least_from}
use Rattle.mrp_master.specs.AtpRow.{AtpRow, IsAtpRow, IsAvailableIn, IsCoveredRow, IsWeekOf, bucket, buckets_to, with_booking}
use Rattle.mrp_master.proofs.Available.{least_is}
use Rattle.mrp_master.proofs.Carried.{buckets_available, sum_before, sum_since}

-- Least values.

-- what is supplied up to a week in a row, less what is booked up to it
abbrev pub uncommitted_in : AtpRow → ℕ → ℕ
uncommitted_in r week = sum_to r.supply week - sum_to r.booked week

abbrev pub least_in : AtpRow → ℕ → ℕ
least_in r week = least_from (uncommitted_in r) week (length r.supply - week)

pub is-least-from : (f : ℕ → ℕ) (week last : ℕ) → week ≤ last → IsLeastFrom f week last (least_from f week (last - week))
is-least-from f week last within =
    least_is f (last - week) week last (omega (arith, within))

pub least-from-same : (f g : ℕ → ℕ) (more week : ℕ) → ((t : ℕ) → week ≤ t → t ≤ week + more → f t ≡ g t) → least_from f week more ≡ least_from g week more
unfolding least_from
least-from-same f g zero week same = same week (omega arith) (omega arith)
least-from-same f g (suc more) week same =
    ap (λ n. min n (least_from f (suc week) more)) (same week (omega arith) (omega arith))
    ∙ ap (min (g week)) (least-from-same f g more (suc week) (λ t a b. same t (omega (arith, a)) (omega (arith, b))))

-- Sums of a row with one more booking.

sum-from : (xs : List ℕ) (week more t : ℕ) → 0 < week → week ≤ length xs → week ≤ t → sum_to (with_week xs week (in_week xs week + more)) t ≡ sum_to xs t + more
sum-from xs week more t first last from = omega (arith, sum_since xs week (in_week xs week + more) t first last from)

module _ (r : AtpRow) (same : length r.booked ≡ length r.supply) (week : ℕ) (inside : IsWeekOf r week) where
  abbrev last : ℕ
  last = length r.supply

  abbrev lowest : ℕ
  lowest = least_in r week

  least-of : IsLeastFrom (uncommitted_in r) week last lowest
  least-of = is-least-from (uncommitted_in r) week last inside.1

  -- what is available in a row is the least of what is uncommitted
  pub available-is : (quantity : ℕ) → IsAvailableIn r week quantity → quantity ≡ least_in r week
  available-is quantity a =
      let from : (more t : ℕ) → week ≤ t → sum_to (with_booking r week more).booked t ≡ sum_to r.booked t + more =
      λ more t h. sum-from r.booked week more t inside.0 (omega (arith, inside.1, same)) h in
      let at = least-of.reached in
      let at_first : 1 ≤ at.0 = omega (arith, inside.0, at.1) in
      let fits_there : sum_to (with_booking r week quantity).booked at.0 ≤ sum_to r.supply at.0 = a.fits at.0 (at_first, at.2) in
      let not_more : quantity ≤ lowest = omega (arith, fits_there, from quantity at.0 at.1, at.3) in
      let covered : IsCoveredRow (with_booking r week lowest) = λ t w. elim (cases_lt t week) [
        | inl before ↦
            let without : sum_to (with_booking r week quantity).booked t ≤ sum_to r.supply t = a.fits t w in
            omega (arith, without, sum_before r.booked week (in_week r.booked week + quantity) t before, sum_before r.booked week (in_week r.booked week + lowest) t before)
        | inr later ↦
            let with_it : sum_to (with_booking r week quantity).booked t ≤ sum_to r.supply t = a.fits t w in
            let low : lowest ≤ uncommitted_in r t = least-of.below t later w.1 in
            omega (arith, with_it, low, from quantity t later, from lowest t later)
      ] in
      let not_less : lowest ≤ quantity = a.greatest lowest covered in
      omega (arith, not_more, not_less)

-- what is left in the buckets up to a week is what is available in it
pub available-left : (r : AtpRow) → IsAtpRow r → (week : ℕ) → IsWeekOf r week → buckets_to r week ≡ least_in r week
available-left r kept week inside = available-is r kept.same week inside (buckets_to r week) (buckets_available r kept.same kept.covered week inside)

-- and in those up to the next week what its own holds more
pub left-more : (r : AtpRow) (week : ℕ) → week + 1 ≤ length r.supply → buckets_to r (week + 1) ≡ buckets_to r week + bucket r (week + 1)
left-more r week within =
    let next : week + 1 ≡ suc week = omega arith in
    omega (
      arith,
      ap (buckets_to r) next,
      ap (bucket r) next,
      sum_to_suc (row (length r.supply) (bucket r)) week,
      in_week_row (bucket r) (length r.supply) (suc week) (omega arith) (omega (arith, within)),
    )
