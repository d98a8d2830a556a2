-- The lemmas state the clauses.
use Rattle.mrp_master.specs.Supply.{line}
use Rattle.std.proofs.Common.{refl, ◌++◌, ◌∷◌}
use Rattle.mrp_master.proofs.ItemRows.{available_row, booked_to, firm_from_first, fits_row, is_row, parted, row_available, row_fits, row_same_with, row_same_without, row_with, row_without, supplied_to}
use Rattle.mrp_master.proofs.EarliestRows.{earliest_row, row_earliest}
use Rattle.mrp_master.proofs.laws.rows.Goals as goal

pub returns : goal.returns
returns c = record {
  supply = λ s lines item week k w. supplied_to s item lines week (firm_from_first s k item) w.0 w.1;
  booked = λ s lines item week first w. booked_to s item lines week first w.1;
  covered = λ s lines item k m first covered. is_row s k item m lines first covered;
  fits = λ s lines item week quantity k m first covered w. (fits_row s k item m lines first covered week quantity w, row_fits s k item m lines first covered week quantity w);
  available = λ s lines item week quantity k m first covered w. (available_row s k item m lines first covered week quantity w, row_available s k item m lines first covered week quantity w);
  earliest = λ s lines item quantity found k m first covered. (earliest_row s k item m lines first covered quantity found, row_earliest s k item m lines first covered quantity found);
  more = λ s lines item week quantity w. row_with s item lines week quantity w;
  more_of_another = λ s lines item other week quantity ne. row_same_with s item lines (line other week quantity) ne;
  less = λ s before after item week quantity w.
      row_without s item (before ++ line item week quantity ∷ after) (before ++ after) (line item week quantity) w refl (λ t. parted item t before after (line item week quantity));
  less_of_another = λ s before after item other week quantity ne.
      row_same_without s item (before ++ line other week quantity ∷ after) (before ++ after) (line other week quantity) ne (λ t. parted item t before after (line other week quantity));
}
