-- The net change of consecutive weeks.
use Rattle.std.proofs.Common.{ℕ, suc, ◌≡◌, ◌≤◌, ◌+◌, inl, inr, List, length, take_all, pos, ◌+ℤ◌, ◌-ℤ◌, ◌≤ℤ◌, arith, refl, ap, sym, ◌∙◌}
use Rattle.std.specs.Prelude.{sum, FitsSigned}
use Rattle.std.specs.Int.{w64}
use Rattle.std.proofs.lemmas.Bool.{cases_lt}
use Rattle.std.proofs.lemmas.Int.{by_lt_z, clamps, ints}
use Rattle.mrp_phase.specs.Weeks.{in_week, sum_to}
use Rattle.mrp_phase.proofs.WeekRows.{sum_to_rises, sum_to_suc, sum_to_whole}
use Rattle.mrp_master.specs.declared.nodes.Node.{Node}
use Rattle.mrp_master.specs.AtpRow.{AtpRow}
use Rattle.mrp_master.specs.Nodes.{IsPromiseRow, IsSpan, joined, shifted, uncommitted_to}
use Rattle.mrp_master.specs.Tree.{place_node}

-- weeks, and those after them
pub joined_span : (r : AtpRow) (before from middle last : ℕ) (a b : Node) → IsSpan r before from middle a → IsSpan r middle (middle + 1) last b
    → IsSpan r before from last (joined a b)
joined_span r before from middle last a b x y = record {
  sum = omega (arith, ints, x.sum, y.sum);
  below = λ t h k. elim (cases_lt middle t) [
    | inl later ↦ omega (arith, ints, clamps, x.sum, y.below t (omega arith) k)
    | inr sooner ↦ omega (arith, ints, clamps, x.below t h sooner)
  ];
  reached = by_lt_z (a.sum +ℤ b.least) a.least
      (λ less. (y.reached.0, omega (arith, y.reached.1), y.reached.2, omega (arith, ints, clamps, x.sum, y.reached.3, less)))
      (λ more. (x.reached.0, x.reached.1, omega (arith, x.reached.2, y.reached.1, y.reached.2), omega (arith, ints, clamps, x.reached.3, more)));
}

-- the same, with the least from one of the later weeks on
pub shifted_span : (r : AtpRow) (before first from middle last : ℕ) (a b : Node) → IsSpan r before first middle a → IsSpan r middle from last b → IsSpan r before from last (shifted a b)
shifted_span r before first from middle last a b x y = record {
  sum = omega (arith, ints, x.sum, y.sum);
  below = λ t h k. omega (arith, ints, x.sum, y.below t h k);
  reached = (y.reached.0, y.reached.1, y.reached.2, omega (arith, ints, x.sum, y.reached.3));
}

-- one week
pub place_span : (r : AtpRow) (week : ℕ) → IsSpan r week (week + 1) (week + 1) (place_node r (week + 1))
place_span r week =
    let next : week + 1 ≡ suc week = omega arith in
    let change : pos (in_week r.supply (suc week)) -ℤ pos (in_week r.booked (suc week)) ≡ uncommitted_to r (suc week) -ℤ uncommitted_to r week =
    omega (arith, ints, sum_to_suc r.supply week, sum_to_suc r.booked week) in
    rw next (record {
      sum = change;
      below = λ t a b. (let same : t ≡ suc week = omega arith in rw same (omega (arith, ints, change)));
      reached = (suc week, omega arith, omega arith, change);
    })

-- After the last week nothing changes.

past : (xs : List ℕ) (t : ℕ) → length xs ≤ t → sum_to xs t ≡ sum_to xs (length xs)
past xs t h = ap sum (take_all t xs h) ∙ sym (sum_to_whole xs)

-- a week of the horizon up to which as much is supplied and booked as up to this one
pub record HasWeekWithin (r : AtpRow) (t : ℕ) : Type 0 where
  pub week : ℕ
  pub no_later : week ≤ t
  pub within : week ≤ length r.supply
  pub at_end : length r.supply ≤ t → week ≡ length r.supply
  pub as_it_is : t ≤ length r.supply → week ≡ t
  pub supplied : sum_to r.supply t ≡ sum_to r.supply week
  pub booked : sum_to r.booked t ≡ sum_to r.booked week

module _ (r : AtpRow) (kept : IsPromiseRow r) where
  pub week_within : (t : ℕ) → HasWeekWithin r t
  week_within t = elim (cases_lt (length r.supply) t) [
    | inl later ↦ record {
      week = length r.supply;
      no_later = omega arith;
      within = omega arith;
      at_end = λ h. refl;
      as_it_is = λ h. absurd (omega arith);
      supplied = past r.supply t (omega arith);
      booked = past r.booked t (omega (arith, kept.row.same)) ∙ ap (sum_to r.booked) kept.row.same;
    }
    | inr inside ↦ record {
      week = t;
      no_later = omega arith;
      within = inside;
      at_end = λ h. omega arith;
      as_it_is = λ h. refl;
      supplied = refl;
      booked = refl;
    }
  ]

  -- up to each week no more is booked than supplied, and the supply is within a quantity
  pub covered_to : (t : ℕ) → sum_to r.booked t ≤ sum_to r.supply t
  covered_to t =
      let v = week_within t in
      elim (cases_lt 0 v.week) [
        | inl some ↦ omega (arith, v.supplied, v.booked, kept.row.covered v.week (some, v.within))
        | inr none ↦
            let zero_is : v.week ≡ 0 = omega arith in
            omega (arith, v.supplied, v.booked, ap (sum_to r.booked) zero_is, ap (sum_to r.supply) zero_is)
      ]

  pub little_to : (t : ℕ) → sum_to r.supply t ≤ 1000000000000000
  little_to t =
      let v = week_within t in
      omega (arith, v.supplied, sum_to_rises r.supply v.week (length r.supply) v.within, sum_to_whole r.supply, kept.little)

  -- so each node is within a quantity, and two together are within the code's integers
  pub span_little : (before from last : ℕ) (a : Node) → IsSpan r before from last a
      → (a.sum ≤ℤ pos 1000000000000000) × (pos 0 ≤ℤ (a.sum +ℤ pos 1000000000000000)) × (a.least ≤ℤ pos 1000000000000000) × (pos 0 ≤ℤ (a.least +ℤ pos 1000000000000000))
  span_little before from last a x =
      let t : ℕ = x.reached.0 in (
        omega (arith, ints, x.sum, covered_to before, covered_to last, little_to last),
        omega (arith, ints, x.sum, covered_to before, covered_to last, little_to before),
        omega (arith, ints, x.reached.3, covered_to before, covered_to t, little_to t),
        omega (arith, ints, x.reached.3, covered_to before, covered_to t, little_to before),
      )

  pub span_fits : (before from last before' from' last' : ℕ) (a b : Node) → IsSpan r before from last a → IsSpan r before' from' last' b
      → FitsSigned w64 (a.sum +ℤ b.sum) × FitsSigned w64 (a.sum +ℤ b.least)
  span_fits before from last before' from' last' a b x y =
      let p = span_little before from last a x in
      let q = span_little before' from' last' b y in
      (omega (arith, ints, p, q), omega (arith, ints, p, q))
