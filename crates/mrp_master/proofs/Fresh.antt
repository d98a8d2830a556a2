-- The row of an item without bookings.
use Rattle.std.proofs.Common.{ℕ, ◌≡◌, List, [], replicate, arith, refl, ◌∙◌, ap}
use Rattle.std.proofs.lemmas.List.{length-replicate}
use Rattle.mrp_phase.specs.Weeks.{row, sum_to}
use Rattle.mrp_phase.proofs.WeekRows.{in_week_replicate, length-row, row_is, sum_to_whole}
use Rattle.mrp_master.specs.Supply.{Supply, IsSupply, due_by}
use Rattle.mrp_master.specs.AtpRow.{FromFirst, atp_row, due_in, opening}
use Rattle.mrp_master.specs.Nodes.{IsPromiseRow}
use Rattle.mrp_master.specs.Tree.{row_of}
use Rattle.mrp_master.proofs.ItemRows.{firm_from_first, row_covered, supplied_to}

module _ (s : Supply) (item : ℕ) where
  pub fresh_row : (supply booked : List ℕ) → supply ≡ row s.weeks (opening s item) → booked ≡ replicate s.weeks 0 → row_of supply booked ≡ atp_row s item []
  fresh_row supply booked opens nothing =
      let bookings : booked ≡ row s.weeks (λ week. due_in item week []) =
      nothing ∙ row_is (replicate s.weeks 0) (λ week. due_in item week []) s.weeks (length-replicate s.weeks 0) (λ t a b. in_week_replicate s.weeks t) in
      ap (λ (xs : List ℕ). row_of xs booked) opens ∙ ap (λ (xs : List ℕ). row_of (row s.weeks (opening s item)) xs) bookings

  pub fresh_kept : IsSupply s → IsPromiseRow (atp_row s item [])
  fresh_kept kept =
      let xs : List ℕ = (atp_row s item []).supply in
      let none_early : FromFirst [] = λ k d h. absurd (omega arith) in
      record {
        row = record {
          weeks = omega (arith, length-row (opening s item) s.weeks, kept.last);
          same = omega (arith, length-row (opening s item) s.weeks, length-row (λ week. due_in item week []) s.weeks);
          covered = row_covered s kept item [] none_early (λ week w. (let none : due_by item week [] ≡ 0 = refl in omega arith));
        };
        some = omega (arith, length-row (opening s item) s.weeks, kept.first);
        little =
            omega (
              arith,
              sum_to_whole xs,
              ap (sum_to xs) (length-row (opening s item) s.weeks),
              supplied_to s item [] s.weeks (firm_from_first s kept item) kept.first (omega arith),
              kept.little item s.weeks,
            );
      }
