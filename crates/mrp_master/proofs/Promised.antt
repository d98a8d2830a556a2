-- What is available in a row, and from which week on, by the uncommitted quantity.
use Rattle.std.proofs.Common.{ℕ, ◌≡◌, ◌≤◌, ◌<◌, ◌+◌, ◌-◌, ◌*◌, inl, inr, Some, None, length, ℤ, pos, ◌+ℤ◌, ◌-ℤ◌, ◌≤ℤ◌, ◌<ℤ◌, arith, ap, sym, subst, ◌∙◌}
use Rattle.std.proofs.lemmas.Bool.{cases_lt}
use Rattle.std.proofs.lemmas.Int.{ints}
use Rattle.mrp_phase.specs.Weeks.{sum_to}
use Rattle.mrp_master.specs.declared.nodes.Node.{Node}
use Rattle.mrp_master.specs.AtpRow.{AtpRow, IsAvailableIn, IsCoveredRow, IsEarliestIn, IsWeekOf, with_booking}
use Rattle.mrp_master.specs.Nodes.{IsNode, IsPromiseRow, IsSpan, before, last, uncommitted_to}
use Rattle.mrp_master.proofs.Carried.{booked_before, booked_since}
use Rattle.mrp_master.proofs.Places.{halves, root_before, root_last, place_before, place_last}
use Rattle.mrp_master.proofs.Spans.{covered_to, span_little, week_within}

-- a node with a week below it up to which less than a quantity is uncommitted, and none after it
pub record IsWalk (r : AtpRow) (quantity node : ℕ) (end : ℤ) : Type 0 where
  pub first : 1 ≤ node
  pub within : node < 256
  pub ends : end ≡ uncommitted_to r (last node)
  pub short : (t : ℕ) × (before node < t) × (t ≤ last node) × (sum_to r.supply t < quantity + sum_to r.booked t)
  pub enough : (t : ℕ) → last node < t → t ≤ 128 → quantity + sum_to r.booked t ≤ sum_to r.supply t

module _ (r : AtpRow) (kept : IsPromiseRow r) where
  -- a quantity fits if it is uncommitted from the week on
  fits_from : (week quantity : ℕ) → IsWeekOf r week → ((t : ℕ) → week ≤ t → t ≤ length r.supply → quantity + sum_to r.booked t ≤ sum_to r.supply t) → IsCoveredRow (with_booking r week quantity)
  fits_from week quantity inside enough t within = elim (cases_lt t week) [
    | inl sooner ↦ omega (arith, kept.row.covered t within, booked_before r week quantity t sooner)
    | inr since ↦ omega (arith, enough t since within.1, booked_since r week quantity t inside kept.row.same since)
  ]

  -- and not if it is more than that in a week since
  fails_at : (week quantity t : ℕ) → IsWeekOf r week → week ≤ t → sum_to r.supply t < quantity + sum_to r.booked t → ¬ IsCoveredRow (with_booking r week quantity)
  fails_at week quantity t inside since short fits =
      let v = week_within r kept t in
      let later : week ≤ v.week = elim (cases_lt (length r.supply) t) [ inl past ↦ omega (arith, v.at_end, inside.1) | inr in_it ↦ omega (arith, v.as_it_is) ] in
      omega (arith, v.supplied, v.booked, fits v.week (omega (arith, later, inside.0), v.within), booked_since r week quantity v.week inside kept.row.same later)

  -- the least over the weeks from one on is available in it
  pub span_available : (week quantity : ℕ) (node : Node) → IsWeekOf r week → IsSpan r 0 week 128 node → pos quantity ≡ node.least → IsAvailableIn r week quantity
  span_available week quantity node inside x is = record {
    fits = fits_from week quantity inside (λ t a b. omega (arith, ints, is, x.below t a (omega (arith, b, kept.row.weeks))));
    greatest = λ more fits. elim (cases_lt quantity more) [
      | inl short ↦ absurd (fails_at week more x.reached.0 inside x.reached.1 (omega (arith, ints, is, x.reached.3, short, covered_to r kept x.reached.0)) fits)
      | inr enough ↦ enough
    ];
  }

  pub span_natural : (week : ℕ) (node : Node) → IsSpan r 0 week 128 node → (pos 0 ≤ℤ node.least) × (node.least ≤ℤ pos 1000000000000000)
  span_natural week node x = (omega (arith, ints, x.reached.3, covered_to r kept x.reached.0), (span_little r kept 0 week 128 node x).2)

  -- its later half is such a node, or the earlier one is
  pub walk_later : (quantity node : ℕ) (end : ℤ) (later : Node) → node < 128 → IsWalk r quantity node end → IsNode r (2 * node + 1) later → (end -ℤ later.sum +ℤ later.least) <ℤ pos quantity
      → IsWalk r quantity (2 * node + 1) end
  walk_later quantity node end later inner w x less =
      let h = halves node w.first inner in record {
        first = omega arith;
        within = omega arith;
        ends = w.ends ∙ ap (uncommitted_to r) (sym h.end);
        short = (x.reached.0, omega (arith, x.reached.1), x.reached.2, omega (arith, ints, less, w.ends, x.sum, x.reached.3, ap (sum_to r.supply) h.end, ap (sum_to r.booked) h.end));
        enough = λ t a b. w.enough t (omega (arith, a, h.end)) b;
      }

  pub walk_sooner : (quantity node : ℕ) (end : ℤ) (later : Node) → node < 128 → IsWalk r quantity node end → IsNode r (2 * node + 1) later → pos quantity ≤ℤ (end -ℤ later.sum +ℤ later.least)
      → IsWalk r quantity (2 * node) (end -ℤ later.sum)
  walk_sooner quantity node end later inner w x enough =
      let h = halves node w.first inner in
      let same_end : uncommitted_to r (last (2 * node + 1)) ≡ uncommitted_to r (last node) = ap (uncommitted_to r) h.end in
      let in_later : (t : ℕ) → last (2 * node) < t → t ≤ last node → quantity + sum_to r.booked t ≤ sum_to r.supply t =
      λ t a b. omega (arith, ints, enough, w.ends, x.sum, same_end, x.below t (omega (arith, a, h.middle)) (omega (arith, b, h.end))) in
      record {
        first = omega (arith, w.first);
        within = omega arith;
        ends = omega (arith, ints, w.ends, x.sum, same_end, ap (uncommitted_to r) h.middle);
        short =
            let s = w.short in
            let before_middle : s.0 ≤ last (2 * node) = elim (cases_lt (last (2 * node)) s.0) [
              | inl past ↦ absurd (omega (arith, s.3, in_later s.0 past s.2))
              | inr sooner ↦ sooner
            ] in
            (s.0, omega (arith, s.1, h.first), before_middle, s.3);
        enough = λ t a b. elim (cases_lt (last node) t) [ inl past ↦ w.enough t past b | inr inside ↦ in_later t a inside ];
      }

  -- at the root
  pub walk_root : (quantity : ℕ) (root : Node) → IsNode r 1 root → root.least <ℤ pos quantity → IsWalk r quantity 1 root.sum
  walk_root quantity root x less = record {
    first = omega arith;
    within = omega arith;
    ends = omega (arith, ints, x.sum, ap (sum_to r.supply) root_before, ap (sum_to r.booked) root_before);
    short = (x.reached.0, omega (arith, x.reached.1), x.reached.2, omega (arith, ints, less, x.reached.3, ap (sum_to r.supply) root_before, ap (sum_to r.booked) root_before));
    enough = λ t a b. absurd (omega (arith, root_last));
  }

  -- there is no such week: week 1 is the first
  pub from_first : (quantity : ℕ) (root : Node) → IsNode r 1 root → pos quantity ≤ℤ root.least → IsEarliestIn r quantity (Some 1)
  from_first quantity root x enough = (
    (omega arith, kept.some),
    fits_from 1 quantity (omega arith, kept.some) (λ t a b.
        omega (arith, ints, enough, x.below t (omega (arith, a, root_before)) (omega (arith, b, kept.row.weeks, root_last)), ap (sum_to r.supply) root_before, ap (sum_to r.booked) root_before)),
    λ sooner inside before. absurd (omega (arith, inside.0)),
  )

  module _ (quantity node : ℕ) (end : ℤ) (place : 128 ≤ node) (w : IsWalk r quantity node end) where
    -- the last such week
    last_short : sum_to r.supply (node - 127) < quantity + sum_to r.booked (node - 127)
    last_short =
        let s = w.short in
        let here : s.0 ≡ node - 127 = omega (arith, s.1, s.2, place_before node place, place_last node place) in
        subst (λ (t : ℕ). sum_to r.supply t < quantity + sum_to r.booked t) here s.3

    -- the week after it is the first
    pub after_last : node - 127 < length r.supply → IsEarliestIn r quantity (Some (node - 127 + 1))
    after_last inside =
        let next : IsWeekOf r (node - 127 + 1) = (omega arith, omega arith) in (
          next,
          fits_from (node - 127 + 1) quantity next (λ t a b. w.enough t (omega (arith, a, place_last node place)) (omega (arith, b, kept.row.weeks))),
          λ sooner within before. fails_at sooner quantity (node - 127) within (omega (arith, before)) last_short,
        )

    -- and there is none if it would come after all
    pub none_after : length r.supply ≤ node - 127 → IsEarliestIn r quantity None
    none_after past = λ week inside. fails_at week quantity (node - 127) inside (omega (arith, inside.1, past)) last_short
