-- Quantities due of an item, row by row.
use Rattle.std.specs.Prelude.{ℕ, ◌==◌, ◌&&◌, ◌+◌, if◌then◌else◌, Bool, List, map, filter, sum}
use Rattle.mrp_phase.specs.Weeks.{in_week}
use Rattle.mrp_tables.specs.declared.rows.MasterRow.{MasterRow}
use Rattle.mrp_tables.specs.declared.rows.Receipt.{Receipt}
use Rattle.mrp_book.specs.declared.booking.Booking.{Booking}
use Rattle.mrp_item.specs.declared.due.Due.{Due}
use Rattle.mrp_tables.specs.Master.{is_firm, is_forecast, is_service}

-- the quantities that are due in a week, in order
abbrev pub due_in : ℕ → List Due → List ℕ
due_in week dues = map (λ d. d.quantity) (filter (λ d. d.week == week) dues)

abbrev pub due_sum : List Due → ℕ → ℕ
due_sum dues week = sum (due_in week dues)

-- a row's value in a week, with a quantity added in one of its weeks
abbrev pub with_more : List ℕ → ℕ → ℕ → ℕ → ℕ
with_more xs at more week = in_week xs week + (if at == week then more else 0)

-- the quantities due by those rows that a test keeps
abbrev pub dues_of : {R D : Type 0} → (R → Bool) → (R → D) → List R → List D
dues_of keep due rows = map due (filter keep rows)

abbrev pub master_due : MasterRow → Due
master_due r = record { number = r.number; week = r.week; quantity = r.quantity }

abbrev pub receipt_due : Receipt → Due
receipt_due r = record { number = r.number; week = r.week; quantity = r.quantity }

abbrev pub booking_due : Booking → Due
booking_due b = record { number = b.number; week = b.line.week; quantity = b.line.quantity }

-- the quantities due of an item: its firm rows, its forecasts, its service rows, its open receipts, its bookings
abbrev pub firm_dues : List MasterRow → ℕ → List Due
firm_dues rows i = dues_of (λ r. (r.item == i) && is_firm r.kind) master_due rows

abbrev pub forecast_dues : List MasterRow → ℕ → List Due
forecast_dues rows i = dues_of (λ r. (r.item == i) && is_forecast r.kind) master_due rows

abbrev pub service_dues : List MasterRow → ℕ → List Due
service_dues rows i = dues_of (λ r. (r.item == i) && is_service r.kind) master_due rows

abbrev pub receipt_dues : List Receipt → ℕ → List Due
receipt_dues rows i = dues_of (λ r. r.item == i) receipt_due rows

abbrev pub booking_dues : List Booking → ℕ → List Due
booking_dues rows i = dues_of (λ b. b.line.item == i) booking_due rows
