-- A row with the bookings of a week replaced, and its tree before the week is renewed.
use Rattle.std.proofs.Common.{ℕ, zero, suc, ◌≡◌, ◌≢◌, ◌≤◌, ◌<◌, ◌+◌, ◌-◌, inl, inr, List, pos, ◌-ℤ◌, set, sym, ◌∙◌, ap, arith}
use Rattle.std.proofs.lemmas.Bool.{cases_lt}
use Rattle.mrp_phase.specs.Weeks.{in_week, sum_to, with_week}
use Rattle.mrp_phase.proofs.WeekRows.{in_week_changed, in_week_kept, length-with_week, sum_to_suc, with_week_at}
use Rattle.mrp_master.specs.declared.nodes.Node.{Node}
use Rattle.mrp_master.specs.AtpRow.{IsCoveredRow, IsWeekOf, with_booked}
use Rattle.mrp_master.specs.Nodes.{IsPromiseRow}
use Rattle.mrp_master.specs.Tree.{IsKept, IsMade, place_node, row_of}
use Rattle.mrp_master.proofs.Spans.{little_to}
use Rattle.mrp_master.proofs.Trees.{made_inner, made_place}

-- a changed week of the list, by its place
pub changed : (xs : List ℕ) (week place pieces quantity : ℕ) → 1 ≤ week → place ≡ week → quantity ≡ pieces → set xs (place - 1) quantity ≡ with_week xs week pieces
changed xs week place pieces quantity h is same =
    ap (λ i. set xs (i - 1) quantity) is ∙ ap (λ q. set xs (week - 1) q) same ∙ sym (with_week_at xs week pieces h)

abbrev both : ℕ → ℕ → Node
both x y = record { sum = pos x -ℤ pos y; least = pos x -ℤ pos y }

in_sum : (xs : List ℕ) (week : ℕ) → 1 ≤ week → in_week xs week ≤ sum_to xs week
in_sum xs zero h = absurd (omega arith)
in_sum xs (suc week) h = omega (arith, sum_to_suc xs week)

module _ (supply booked : List ℕ) (nodes : List Node) (week pieces : ℕ) (kept : IsKept supply booked nodes) (inside : IsWeekOf (row_of supply booked) week)
    (covered : IsCoveredRow (with_booked (row_of supply booked) week pieces)) where
  abbrev pub after : List ℕ
  after = with_week booked week pieces

  pub rebooked : IsPromiseRow (row_of supply after)
  rebooked = record {
    row = record {
      weeks = kept.row.row.weeks;
      same = length-with_week booked week pieces ∙ kept.row.row.same;
      covered = covered;
    };
    some = kept.row.some;
    little = kept.row.little;
  }

  -- no more is booked in the week than a quantity
  pub pieces_little : pieces ≤ 1000000000000000
  pieces_little =
      omega (
        arith,
        in_week_changed booked week pieces inside.0 (omega (arith, inside.1, kept.row.row.same)),
        in_sum after week inside.0,
        covered week inside,
        little_to (row_of supply booked) kept.row week,
      )

  -- nodes other than the week's place are made as before
  pub others_made : (n : ℕ) → 1 ≤ n → n < 256 → n ≢ week + 127 → IsMade (row_of supply after) nodes n
  others_made n some within other = elim (cases_lt n 128) [
    | inl inner ↦ record { is = (kept.tree.made n some within).is ∙ made_inner (row_of supply booked) nodes n inner ∙ sym (made_inner (row_of supply after) nodes n inner) }
    | inr place ↦
        let apart : n - 127 ≢ week = omega (arith, other) in
        let same : place_node (row_of supply booked) (n - 127) ≡ place_node (row_of supply after) (n - 127) =
        ap (λ (x : ℕ). both (in_week supply (n - 127)) x) (sym (in_week_kept booked week (n - 127) pieces apart)) in
        record { is = (kept.tree.made n some within).is ∙ made_place (row_of supply booked) nodes n place ∙ same ∙ sym (made_place (row_of supply after) nodes n place) }
  ]
