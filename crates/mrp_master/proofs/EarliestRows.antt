-- The first week in which enough is available in an item's row is the first in which a quantity can be promised.
use Rattle.std.proofs.Common.{ℕ, List, Option, Some, None, arith}
use Rattle.mrp_phase.proofs.WeekRows.{length-row}
use Rattle.mrp_master.specs.declared.line.Line.{Line}
use Rattle.mrp_master.specs.Supply.{Supply, IsCovered, IsEarliest, IsMaster, IsSupply, IsWeek}
use Rattle.mrp_master.specs.AtpRow.{FromFirst, IsEarliestIn, IsWeekOf, atp_row, opening}
use Rattle.mrp_master.proofs.ItemRows.{fits_row, row_fits, week_of_row}
use Rattle.mrp_master.proofs.Promises.{fits_promise, promise_fits}

row_of_week : (s : Supply) (item : ℕ) (ls : List Line) (week : ℕ) → IsWeekOf (atp_row s item ls) week → IsWeek s week
row_of_week s item ls week inside = (inside.0, omega (arith, length-row (opening s item) s.weeks, inside.1))

module _ (s : Supply) (supplied : IsSupply s) (item : ℕ) (master : IsMaster s item) (ls : List Line) (all : FromFirst ls) (covered : IsCovered s ls) where
  pub earliest_row : (quantity : ℕ) (found : Option ℕ) → IsEarliestIn (atp_row s item ls) quantity found → IsEarliest s ls item quantity found
  earliest_row quantity None none = λ week w can. none week (week_of_row s item ls week w) (row_fits s supplied item master ls all covered week quantity w (promise_fits s ls item week quantity can))
  earliest_row quantity (Some week) (inside, fits, least) =
      let w : IsWeek s week = row_of_week s item ls week inside in (
        w,
        fits_promise s ls item master covered week quantity w (fits_row s supplied item master ls all covered week quantity w fits),
        λ sooner v before can. least sooner (week_of_row s item ls sooner v) before (row_fits s supplied item master ls all covered sooner quantity v (promise_fits s ls item sooner quantity can)),
      )

  pub row_earliest : (quantity : ℕ) (found : Option ℕ) → IsEarliest s ls item quantity found → IsEarliestIn (atp_row s item ls) quantity found
  row_earliest quantity None none = λ week inside fits.
      let w : IsWeek s week = row_of_week s item ls week inside in
      none week w (fits_promise s ls item master covered week quantity w (fits_row s supplied item master ls all covered week quantity w fits))
  row_earliest quantity (Some week) (w, can, least) = (
    week_of_row s item ls week w,
    row_fits s supplied item master ls all covered week quantity w (promise_fits s ls item week quantity can),
    λ sooner inside before fits.
        let v : IsWeek s sooner = row_of_week s item ls sooner inside in
        least sooner v before (fits_promise s ls item master covered sooner quantity v (fits_row s supplied item master ls all covered sooner quantity v fits)),
  )
