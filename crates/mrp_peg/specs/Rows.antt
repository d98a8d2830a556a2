-- Requirements as the program lists them before it sorts them by week.
use Rattle.std.specs.Prelude.{ℕ, ◌+◌, ◌-◌, ◌*◌, ◌++◌, nat_lt, if◌then◌else◌, List, [], ◌∷◌, map, flat_map, slice_index}
use Rattle.mrp_tables.specs.declared.rows.BillLine.{BillLine}
use Rattle.mrp_bill.specs.Bill.{line_at, lines_of}
use Rattle.mrp_phase.specs.Weeks.{in_week, row, weeks}
use Rattle.mrp_item.specs.declared.due.Due.{Due}
use Rattle.mrp_item.specs.declared.order.Order.{Order}
use Rattle.mrp_item.specs.Dues.{booking_dues, due_sum, service_dues}
use Rattle.mrp_item.specs.Inputs.{Inputs, horizon, is_master}
use Rattle.mrp_item.specs.Plan.{outcome_of, plan_in}
use Rattle.mrp_peg.specs.declared.peg.NeedKind.TheVariants.{Booking, Forecast, Parent, Service}
use Rattle.mrp_peg.specs.declared.matching.Requirement.{Requirement}
use Rattle.mrp_peg.specs.Pegging.{orders_in}

abbrev pub booking_requirement : ℕ → Due → Requirement
booking_requirement i due = record { need = record { item = i; week = due.week; kind = Booking due.number }; quantity = due.quantity }

abbrev pub service_requirement : ℕ → Due → Requirement
service_requirement i due = record { need = record { item = i; week = due.week; kind = Service due.number }; quantity = due.quantity }

-- what is left of a week's demand, if anything is
abbrev pub forecast_requirements : ℕ → List ℕ → ℕ → List Requirement
forecast_requirements i left week =
    if nat_lt 0 (in_week left week) then record { need = record { item = i; week = week; kind = Forecast }; quantity = in_week left week } ∷ [] else []

-- the place in the bill table of one of the lines to an item, and the line there
abbrev pub place_to : Inputs → ℕ → ℕ → ℕ
place_to s i k = slice_index (lines_of s.tables.bills i) k

abbrev pub line_to : Inputs → ℕ → ℕ → BillLine
line_to s i k = line_at s.tables.bills (place_to s i k)

abbrev pub order_requirement : ℕ → ℕ → ℕ → ℕ × Order → Requirement
order_requirement i line per n = record { need = record { item = i; week = n.1.release; kind = Parent line n.0 }; quantity = n.1.start * per }

abbrev pub line_requirements : Inputs → ℕ → ℕ → List Requirement
line_requirements s i place = let line = line_at s.tables.bills place in map (order_requirement i (place + 1) line.per) (orders_in s line.parent)

-- the demand of each week less what is booked there
abbrev pub beyond : List ℕ → List Due → ℕ → ℕ
beyond demand bookings week = in_week demand week - due_sum bookings week

abbrev pub independent_requirements : Inputs → ℕ → List Requirement
independent_requirements s i =
    map (booking_requirement i) (booking_dues s.standing i)
    ++ flat_map (forecast_requirements i (row (horizon s) (beyond (plan_in (outcome_of s i)).gross (booking_dues s.standing i)))) (weeks (horizon s))

abbrev pub service_requirements : Inputs → ℕ → List Requirement
service_requirements s i = map (service_requirement i) (service_dues s.tables.master i)

abbrev pub parent_requirements : Inputs → ℕ → List Requirement
parent_requirements s i = flat_map (line_requirements s i) (lines_of s.tables.bills i)

-- the requirements of a part: those of its service rows, and then those from its parents' orders
abbrev pub part_requirements : Inputs → ℕ → List Requirement
part_requirements s i = service_requirements s i ++ parent_requirements s i

abbrev pub all_requirements : Inputs → ℕ → List Requirement
all_requirements s i = if is_master s i then independent_requirements s i else part_requirements s i
