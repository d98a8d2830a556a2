-- There is a quantity that is available, and a first week for each quantity, or none.
use Rattle.std.proofs.Common.{ℕ, zero, suc, ◌≡◌, ◌≤◌, ◌<◌, ◌+◌, ◌-◌, ◌∷◌, ◌++◌, [], inl, inr, List, Option, Some, None, arith, ap, refl, subst}
use Rattle.std.proofs.lemmas.Bool.{cases_lt}
use Rattle.mrp_master.specs.declared.line.Line.{Line}
use Rattle.mrp_master.specs.Supply.{Supply, CanPromise, IsAvailable, IsCovered, IsEarliest, IsMaster, IsWeek, available, line, uncommitted}
use Rattle.mrp_master.proofs.Available.{available_unique, covered-less, least_is, least_is_available}

module _ (s : Supply) (lines : List Line) (item : ℕ) where
  -- first weeks for a quantity are the same
  pub earliest_unique : (quantity : ℕ) (v w : Option ℕ) → IsEarliest s lines item quantity v → IsEarliest s lines item quantity w → v ≡ w
  earliest_unique quantity None None a b = refl
  earliest_unique quantity None (Some w) a b = absurd (a w b.0 b.1)
  earliest_unique quantity (Some v) None a b = absurd (b v a.0 a.1)
  earliest_unique quantity (Some v) (Some w) a b = elim (cases_lt v w) [
    | inl sooner ↦ absurd (b.2 v a.0 sooner a.1)
    | inr not_sooner ↦ elim (cases_lt w v) [
      | inl sooner ↦ absurd (a.2 w b.0 sooner b.1)
      | inr same ↦ let e : v ≡ w = omega arith in ap Some e
    ]
  ]

  -- a quantity can be promised only if one more line of it is covered
  pub promise_fits : (week quantity : ℕ) → CanPromise s lines item quantity week → IsCovered s (lines ++ line item week quantity ∷ [])
  promise_fits week quantity (a, is, enough) = covered-less s lines item week quantity a enough is.fits

  module _ (master : IsMaster s item) (covered : IsCovered s lines) where
    -- the least of what is uncommitted is available
    pub available_is : (week : ℕ) → IsWeek s week → IsAvailable s lines item week (available s lines item week)
    available_is week w =
        least_is_available s lines item week (available s lines item week) master w covered (least_is (uncommitted s lines item) (s.weeks - week) week s.weeks (omega (arith, w.1)))

    pub fits_promise : (week quantity : ℕ) → IsWeek s week → IsCovered s (lines ++ line item week quantity ∷ []) → CanPromise s lines item quantity week
    fits_promise week quantity w fits = (available s lines item week, available_is week w, (available_is week w).greatest quantity fits)

    short_of : (week quantity : ℕ) → IsWeek s week → available s lines item week < quantity → ¬ CanPromise s lines item quantity week
    short_of week quantity w short = λ (can : CanPromise s lines item quantity week).
        let same : can.0 ≡ available s lines item week = available_unique s lines item week can.0 (available s lines item week) can.1 (available_is week w) in
        omega (arith, can.2, same, short)

    -- the weeks from one on, if none before it has enough
    earliest_from : (quantity more week : ℕ) → week + more ≡ s.weeks + 1 → 1 ≤ week → ((sooner : ℕ) → IsWeek s sooner → sooner < week → ¬ CanPromise s lines item quantity sooner)
        → (found : Option ℕ) × IsEarliest s lines item quantity found
    earliest_from quantity zero week end first none = (None, λ t w. none t w (omega (arith, w.1)))
    earliest_from quantity (suc more) week end first none =
        let w : IsWeek s week = (first, omega arith) in
        elim (cases_lt (available s lines item week) quantity) [
          | inl short ↦ earliest_from quantity more (suc week) (omega arith) (omega arith) (λ t v before. elim (cases_lt t week) [
            | inl sooner ↦ none t v sooner
            | inr here ↦
                let same : week ≡ t = omega arith in
                short_of t quantity v (subst (λ (x : ℕ). available s lines item x < quantity) same short)
          ])
          | inr enough ↦ (Some week, (w, (available s lines item week, available_is week w, enough), none))
        ]

    pub earliest_is : (quantity : ℕ) → (found : Option ℕ) × IsEarliest s lines item quantity found
    earliest_is quantity = earliest_from quantity s.weeks 1 (omega arith) (omega arith) (λ t w before. absurd (omega (arith, w.0)))
