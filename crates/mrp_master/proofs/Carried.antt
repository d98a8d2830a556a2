-- The carried buckets of a row up to a week add up to what is available in it.
use Rattle.std.proofs.Common.{ℕ, zero, suc, ◌≡◌, ◌≢◌, ◌≤◌, ◌<◌, ◌+◌, ◌-◌, inl, inr, List, length, arith, refl, sym, ◌∙◌, ap, subst}
use Rattle.std.proofs.lemmas.Bool.{cases_lt}
use Rattle.mrp_phase.specs.Weeks.{in_week, row, sum_to, with_week}
use Rattle.mrp_phase.proofs.WeekRows.{in_week_changed, in_week_kept, in_week_row, sum_to_suc}
use Rattle.mrp_master.specs.AtpRow.{AtpRow, IsAtpRow, IsAvailableIn, IsCoveredRow, IsWeekOf, bucket, buckets_to, lacking, with_booked, with_booking}

-- with the quantity of a week replaced, sums up to an earlier week stay
pub sum_before : (xs : List ℕ) (week quantity t : ℕ) → t < week → sum_to (with_week xs week quantity) t ≡ sum_to xs t
sum_before xs week quantity zero h = refl
sum_before xs week quantity (suc t) h =
    let other : suc t ≢ week = omega arith in
    omega (arith, sum_to_suc (with_week xs week quantity) t, sum_to_suc xs t, in_week_kept xs week (suc t) quantity other, sum_before xs week quantity t (omega arith))

-- and those from the week on include the new quantity
pub sum_since : (xs : List ℕ) (week quantity t : ℕ) → 1 ≤ week → week ≤ length xs → week ≤ t
    → sum_to (with_week xs week quantity) t + in_week xs week ≡ sum_to xs t + quantity
sum_since xs week quantity zero a b h = absurd (omega arith)
sum_since xs week quantity (suc t) a b h = elim (cases_lt t week) [
  | inl here ↦
      let same : suc t ≡ week = omega arith in
      let own : in_week (with_week xs week quantity) (suc t) ≡ quantity = ap (in_week (with_week xs week quantity)) same ∙ in_week_changed xs week quantity a b in
      let old : in_week xs (suc t) ≡ in_week xs week = ap (in_week xs) same in
      omega (arith, own, old, sum_to_suc (with_week xs week quantity) t, sum_to_suc xs t, sum_before xs week quantity t here)
  | inr later ↦
      let other : suc t ≢ week = omega arith in
      omega (arith, sum_to_suc (with_week xs week quantity) t, sum_to_suc xs t, in_week_kept xs week (suc t) quantity other, sum_since xs week quantity t a b later)
]

module _ (r : AtpRow) where
  -- what the weeks after one lack covers each overdraft since then
  pub lacking_bounds : (more w t : ℕ) → w ≤ t → t ≤ w + more
      → sum_to r.booked t + sum_to r.supply w ≤ sum_to r.supply t + sum_to r.booked w + lacking r more (suc w)
  unfolding lacking
  lacking_bounds zero w t a b =
      let same : t ≡ w = omega arith in
      let P : ℕ → Type 0 = λ x. sum_to r.booked x + sum_to r.supply w ≤ sum_to r.supply x + sum_to r.booked w + 0 in
      subst P (sym same) (omega arith)
  lacking_bounds (suc more) w t a b = elim (cases_lt w t) [
    | inl later ↦
        let rest = lacking_bounds more (suc w) t later (omega arith) in
        omega (arith, rest, sum_to_suc r.booked w, sum_to_suc r.supply w)
    | inr here ↦
        let same : t ≡ w = omega arith in
        let P : ℕ → Type 0 = λ x. sum_to r.booked x + sum_to r.supply w ≤ sum_to r.supply x + sum_to r.booked w + lacking r (suc more) (suc w) in
        subst P (sym same) (omega arith)
  ]

  -- and is one of them, or 0
  pub lacking_reached : (more w : ℕ)
      → (t : ℕ) × (w ≤ t) × (t ≤ w + more) × (sum_to r.booked t + sum_to r.supply w ≡ sum_to r.supply t + sum_to r.booked w + lacking r more (suc w))
  unfolding lacking
  lacking_reached zero w = (w, omega arith, omega arith, omega arith)
  lacking_reached (suc more) w =
      let rest = lacking_reached more (suc w) in
      let e : sum_to r.booked rest.0 + sum_to r.supply (suc w) ≡ sum_to r.supply rest.0 + sum_to r.booked (suc w) + lacking r more (suc (suc w)) = rest.3 in
      let b = sum_to_suc r.booked w in
      let s = sum_to_suc r.supply w in
      elim (cases_lt (in_week r.supply (suc w)) (in_week r.booked (suc w) + lacking r more (suc (suc w)))) [
        | inl short ↦ (rest.0, omega arith, omega arith, omega arith)
        | inr enough ↦ (w, omega arith, omega arith, omega arith)
      ]

  -- one week less of what later weeks lack
  pub lacking_next : (weeks w : ℕ) → w < weeks
      → lacking r (weeks - w) (suc w) ≡ in_week r.booked (suc w) + lacking r (weeks - suc w) (suc (suc w)) - in_week r.supply (suc w)
  lacking_next weeks w h =
      let more : weeks - w ≡ suc (weeks - suc w) = omega arith in
      ap (λ n. lacking r n (suc w)) more ∙ unfold lacking in refl

  -- what the buckets up to a week hold, what is due up to it and what later weeks lack are its supply
  pub buckets_sum : IsCoveredRow r → (w : ℕ) → w ≤ length r.supply
      → buckets_to r w + sum_to r.booked w + lacking r (length r.supply - w) (suc w) ≡ sum_to r.supply w
  buckets_sum covered zero h =
      let some = lacking_reached (length r.supply - 0) 0 in
      let e : sum_to r.booked some.0 + sum_to r.supply 0 ≡ sum_to r.supply some.0 + sum_to r.booked 0 + lacking r (length r.supply - 0) 1 = some.3 in
      elim (cases_lt 0 some.0) [
        | inl later ↦
            let c : sum_to r.booked some.0 ≤ sum_to r.supply some.0 = covered some.0 (later, omega arith) in
            omega arith
        | inr none ↦
            let zero_is : some.0 ≡ 0 = omega arith in
            let b : sum_to r.booked some.0 ≡ 0 = ap (sum_to r.booked) zero_is in
            let s : sum_to r.supply some.0 ≡ 0 = ap (sum_to r.supply) zero_is in
            omega arith
      ]
  buckets_sum covered (suc w) h =
      let rest = buckets_sum covered w (omega arith) in
      let own : in_week (row (length r.supply) (bucket r)) (suc w) ≡ bucket r (suc w) = in_week_row (bucket r) (length r.supply) (suc w) (omega arith) h in
      omega (
        arith,
        rest,
        own,
        lacking_next (length r.supply) w h,
        sum_to_suc (row (length r.supply) (bucket r)) w,
        sum_to_suc r.booked w,
        sum_to_suc r.supply w,
      )

  -- one more booking, up to each week
  pub booked_since : (week quantity t : ℕ) → IsWeekOf r week → length r.booked ≡ length r.supply → week ≤ t
      → sum_to (with_booking r week quantity).booked t ≡ sum_to r.booked t + quantity
  booked_since week quantity t inside same h =
      omega (arith, sum_since r.booked week (in_week r.booked week + quantity) t inside.0 (omega (arith, inside.1)) h)

  pub booked_before : (week quantity t : ℕ) → t < week → sum_to (with_booking r week quantity).booked t ≡ sum_to r.booked t
  booked_before week quantity t h = sum_before r.booked week (in_week r.booked week + quantity) t h

  module _ (same : length r.booked ≡ length r.supply) (covered : IsCoveredRow r) where
    -- as much can be booked as the buckets up to the week hold
    pub fits_within : (week quantity : ℕ) → IsWeekOf r week → quantity ≤ buckets_to r week → IsCoveredRow (with_booking r week quantity)
    fits_within week quantity inside h t within = elim (cases_lt t week) [
      | inl before ↦ omega (arith, covered t within, booked_before week quantity t before)
      | inr since ↦
          omega (
            arith,
            booked_since week quantity t inside same since,
            lacking_bounds (length r.supply - week) week t since (omega (arith, within.1, inside.1)),
            buckets_sum covered week inside.1,
          )
    ]

    -- and no more
    pub fits_at_most : (week quantity : ℕ) → IsWeekOf r week → IsCoveredRow (with_booking r week quantity) → quantity ≤ buckets_to r week
    fits_at_most week quantity inside fits =
        let some = lacking_reached (length r.supply - week) week in
        let e : sum_to r.booked some.0 + sum_to r.supply week ≡ sum_to r.supply some.0 + sum_to r.booked week + lacking r (length r.supply - week) (suc week) = some.3 in
        let last : some.0 ≤ length r.supply = omega (arith, some.2, inside.1) in
        let first : 1 ≤ some.0 = omega (arith, some.1, inside.0) in
        let f : sum_to (with_booking r week quantity).booked some.0 ≤ sum_to r.supply some.0 = fits some.0 (first, last) in
        omega (arith, f, e, booked_since week quantity some.0 inside same some.1, buckets_sum covered week inside.1)

    -- the buckets up to a week hold what is available in it
    pub buckets_available : (week : ℕ) → IsWeekOf r week → IsAvailableIn r week (buckets_to r week)
    buckets_available week inside = record {
      fits = fits_within week (buckets_to r week) inside (omega arith);
      greatest = λ more fits. fits_at_most week more inside fits;
    }

    -- and nothing else does
    available_is : (week quantity : ℕ) → IsWeekOf r week → IsAvailableIn r week quantity → quantity ≡ buckets_to r week
    available_is week quantity inside a =
        omega (arith, fits_at_most week quantity inside a.fits, a.greatest (buckets_to r week) (fits_within week (buckets_to r week) inside (omega arith)))

    -- so a week's bucket is what is available in it and not in the week before
    pub bucket_is : (week now : ℕ) → IsWeekOf r week → IsAvailableIn r week now → (before : ℕ) → ((1 < week → IsAvailableIn r (week - 1) before) × (week ≡ 1 → before ≡ 0)) → now ≡ before + bucket r week
    bucket_is zero now inside a before b = absurd (omega (arith, inside.0))
    bucket_is (suc week) now inside a before b =
        let back : suc week - 1 ≡ week = omega arith in
        let own : in_week (row (length r.supply) (bucket r)) (suc week) ≡ bucket r (suc week) = in_week_row (bucket r) (length r.supply) (suc week) (omega arith) inside.1 in
        let rest : before ≡ buckets_to r week = elim (cases_lt 0 week) [
          | inl some ↦ available_is week before (some, omega (arith, inside.1)) (rw back at (b.0 (omega arith)))
          | inr none ↦
              let zero_is : week ≡ 0 = omega arith in
              omega (arith, b.1 (omega arith), ap (buckets_to r) zero_is)
        ] in
        omega (arith, own, rest, available_is (suc week) now inside a, sum_to_suc (row (length r.supply) (bucket r)) week)

-- a smaller quantity is covered where a larger one is
pub fits_less : (r : AtpRow) (week less more : ℕ) → length r.booked ≡ length r.supply → IsWeekOf r week → less ≤ more → IsCoveredRow (with_booked r week more) → IsCoveredRow (with_booked r week less)
fits_less r week less more same inside h fits t within = elim (cases_lt t week) [
  | inl before ↦ omega (arith, fits t within, sum_before r.booked week less t before, sum_before r.booked week more t before)
  | inr since ↦
      omega (
        arith,
        fits t within,
        sum_since r.booked week less t inside.0 (omega (arith, inside.1)) since,
        sum_since r.booked week more t inside.0 (omega (arith, inside.1)) since,
      )
]

-- and so is a row with less booked
pub fits_lower : (r : AtpRow) (week less : ℕ) → length r.booked ≡ length r.supply → IsWeekOf r week → less ≤ in_week r.booked week → IsCoveredRow r → IsCoveredRow (with_booked r week less)
fits_lower r week less same inside h covered t within = elim (cases_lt t week) [
  | inl before ↦ omega (arith, covered t within, sum_before r.booked week less t before)
  | inr since ↦ omega (arith, covered t within, sum_since r.booked week less t inside.0 (omega (arith, inside.1)) since)
]

-- what is available fits, and so does less
pub fits_available : (r : AtpRow) (week quantity available : ℕ) → IsAtpRow r → IsWeekOf r week → IsAvailableIn r week available → quantity ≤ available → IsCoveredRow (with_booking r week quantity)
fits_available r week quantity available is inside most enough =
    fits_less r week (in_week r.booked week + quantity) (in_week r.booked week + available) is.same inside (omega arith) most.fits
