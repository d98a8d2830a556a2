-- An item's rows of the tables and its bookings, by week.
use Rattle.std.specs.Prelude.{ℕ, ◌==◌, ◌&&◌, if◌then◌else◌, List, filter, sum_by, max}
use Rattle.mrp_tables.specs.declared.rows.BillLine.{BillLine}
use Rattle.mrp_tables.specs.declared.rows.Receipt.{Receipt}
use Rattle.mrp_tables.specs.declared.rows.MasterRow.{MasterRow}
use Rattle.mrp_tables.specs.Master.{is_firm, is_forecast, is_service}
use Rattle.mrp_master.specs.Supply.{on_hand_of}
use Rattle.mrp_book.specs.declared.booking.Booking.{Booking}
use Rattle.mrp_phase.specs.Weeks.{row}
use Rattle.mrp_net.specs.declared.stock.Stock.{Stock}
use Rattle.mrp_item.specs.Inputs.{Inputs, horizon, item_at, is_master}

-- the firm rows of an item that are due in a week, in table order (Orlicky: master production schedule)
abbrev pub firm_rows : Inputs → ℕ → ℕ → List MasterRow
firm_rows s i week = filter (λ r. (r.item == i) && (r.week == week) && is_firm r.kind) s.tables.master

abbrev pub forecast_rows : Inputs → ℕ → ℕ → List MasterRow
forecast_rows s i week = filter (λ r. (r.item == i) && (r.week == week) && is_forecast r.kind) s.tables.master

-- the service rows of an item that are due in a week, in table order (APICS Dictionary: service parts demand)
abbrev pub service_rows : Inputs → ℕ → ℕ → List MasterRow
service_rows s i week = filter (λ r. (r.item == i) && (r.week == week) && is_service r.kind) s.tables.master

-- the open receipts of an item that are due in a week, in table order (Orlicky: scheduled receipts)
abbrev pub open_receipts : Inputs → ℕ → ℕ → List Receipt
open_receipts s i week = filter (λ r. (r.item == i) && (r.week == week)) s.tables.receipts

-- the standing bookings of an item that are due in a week
abbrev pub bookings_due : Inputs → ℕ → ℕ → List Booking
bookings_due s i week = filter (λ b. (b.line.item == i) && (b.line.week == week)) s.standing

-- the bill lines in which an item is the component
abbrev pub lines_to : Inputs → ℕ → List BillLine
lines_to s i = filter (λ line. line.component == i) s.tables.bills

-- the forecast of an item in a week: the rows of one week add up
abbrev pub forecast : Inputs → ℕ → ℕ → ℕ
forecast s i week = sum_by (λ r. r.quantity) (forecast_rows s i week)

-- the service parts demand of an item in a week: the rows of one week add up
abbrev pub service : Inputs → ℕ → ℕ → ℕ
service s i week = sum_by (λ r. r.quantity) (service_rows s i week)

-- the booked quantity of an item due in a week
abbrev pub booked : Inputs → ℕ → ℕ → ℕ
booked s i week = sum_by (λ b. b.line.quantity) (bookings_due s i week)

-- the independent demand of a master item in a week: the greater of its forecast and its standing bookings (profile)
abbrev pub independent_demand : Inputs → ℕ → ℕ → ℕ
independent_demand s i week = max (forecast s i week) (booked s i week)

-- the scheduled receipts of an item in a week: the firm rows of a master item, the open receipts of a part
-- (Orlicky: scheduled receipts)
abbrev pub scheduled_in : Inputs → ℕ → ℕ → ℕ
scheduled_in s i week =
    if is_master s i then sum_by (λ r. r.quantity) (firm_rows s i week)
    else sum_by (λ r. r.quantity) (open_receipts s i week)

-- the stock on hand of an item; 0 without a stock record
abbrev pub on_hand : Inputs → ℕ → ℕ
on_hand s i = on_hand_of s.tables.stock i

-- an item's stock on hand, safety stock and scheduled receipts
abbrev pub stock_of : Inputs → ℕ → Stock
stock_of s i = record { on_hand = on_hand s i; safety = (item_at s i).safety; scheduled = row (horizon s) (scheduled_in s i) }
