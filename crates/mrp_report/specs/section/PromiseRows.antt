-- What is available to promise of each master item in each week (APICS Dictionary: available-to-promise; profile: its
-- exact rules).
use Rattle.std.specs.Prelude.{ℕ, List, sum_by}
use Rattle.mrp_phase.specs.Weeks.{row}
use Rattle.mrp_master.specs.Supply as promise
use Rattle.mrp_master.specs.Supply.{supply_of}
use Rattle.mrp_master.specs.AtpRow.{AtpRow, atp_row, bucket}
use Rattle.mrp_book.specs.Bookings.{lines_of}
use Rattle.mrp_item.specs.Inputs.{Inputs, horizon}
use Rattle.mrp_item.specs.Rows.{booked, firm_rows}
use Rattle.mrp_report.specs.declared.section.promises.PromiseRow.{PromiseRow}

-- available to promise besides the standing bookings
abbrev pub available : Inputs → ℕ → ℕ → ℕ
available s i week = promise.available (supply_of s.tables) (lines_of s.standing) i week

-- an item's supply and standing bookings, week by week
abbrev pub promises_of : Inputs → ℕ → AtpRow
promises_of s i = atp_row (supply_of s.tables) i (lines_of s.standing)

-- a week of a master item: the firm quantity due, the standing bookings due, the week's bucket, and what is available
-- to promise
abbrev pub promise_row : Inputs → ℕ → ℕ → PromiseRow
promise_row s i week = record {
  week = week;
  firm = sum_by (λ r. r.quantity) (firm_rows s i week);
  booked = booked s i week;
  bucket = bucket (promises_of s i) week;
  available = available s i week;
}

-- the rows of an item, week by week
abbrev pub promise_rows : Inputs → ℕ → List PromiseRow
promise_rows s i = row (horizon s) (promise_row s i)
