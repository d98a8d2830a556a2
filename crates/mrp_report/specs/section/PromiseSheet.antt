-- The quantities of a master item week by week, from which its rows of promises are made.
use Rattle.std.specs.Prelude.{ℕ, ◌≡◌, ◌≤◌, ◌*◌, length}
use Rattle.mrp_cal.specs.declared.calendar.TheConstants.{MOST_WEEKS}
use Rattle.mrp_qty.specs.Quantity.{greatest_quantity}
use Rattle.mrp_phase.specs.Weeks.{in_week}
use Rattle.mrp_master.specs.AtpRow.{bucket, buckets_to}
use Rattle.mrp_report.specs.declared.section.promises.PromiseRow.{PromiseRow}
use Rattle.mrp_report.specs.declared.section.promise_sheet.PromiseSheet.{PromiseSheet}

-- a sheet of at most two years, with a firm quantity, a supply and bookings for each week
pub record IsPromiseSheet (s : PromiseSheet) : Type 0 where
  pub few : s.weeks ≤ MOST_WEEKS
  pub firm : length s.firm.now ≡ s.weeks
  pub supply : length s.row.now.supply ≡ s.weeks
  pub booked : length s.row.now.booked ≡ s.weeks

-- so much is left in the buckets up to a week, each of which is a quantity
pub record IsLeftTo (s : PromiseSheet) (week left : ℕ) : Type 0 where
  pub left_is : left ≡ buckets_to s.row.now week
  pub little : left ≤ week * greatest_quantity

-- the row of a week: what is available is what is left in the buckets up to it
abbrev pub sheet_promise : PromiseSheet → ℕ → PromiseRow
sheet_promise s week = record {
  week = week;
  firm = in_week s.firm.now week;
  booked = in_week s.row.now.booked week;
  bucket = bucket s.row.now week;
  available = buckets_to s.row.now week;
}
