-- The requirements and the supplies of an item, and its pegs (Orlicky: pegging; profile: piece by piece, first to first).
use Rattle.std.specs.Prelude.{ℕ, ◌+◌, ◌-◌, ◌*◌, ◌==◌, ◌++◌, nat_lt, if◌then◌else◌, List, [], ◌∷◌, map, filter, flat_map}
use Rattle.std.specs.List.{enumerate_from}
use Rattle.mrp_bill.specs.Bill.{line_at, lines_of}
use Rattle.mrp_phase.specs.Weeks.{weeks}
use Rattle.mrp_item.specs.declared.order.Order.{Order}
use Rattle.mrp_item.specs.Inputs.{Inputs, horizon, is_master, places}
use Rattle.mrp_item.specs.Plan.{outcome_of, plan_in}
use Rattle.mrp_item.specs.Rows.{booked, bookings_due, forecast, service_rows}
use Rattle.mrp_item.specs.Supplies.{supplies_of}
use Rattle.mrp_item.specs.declared.supplies.Supplied.{Supplied}
use Rattle.mrp_peg.specs.declared.peg.Need.{Need}
use Rattle.mrp_peg.specs.declared.peg.NeedKind.{NeedKind}
use Rattle.mrp_peg.specs.declared.peg.NeedKind.TheVariants.{Booking, Forecast, Parent, Service}
use Rattle.mrp_peg.specs.declared.peg.Peg.{Peg}
use Rattle.mrp_peg.specs.Matching.{amounts_offered, peg_of}
use Rattle.mrp_peg.specs.Units.{Amount, matches}

-- the orders of an item in the plan with their numbers; an order's number is its place from 1
abbrev pub orders_in : Inputs → ℕ → List (ℕ × Order)
orders_in s i = enumerate_from 1 (plan_in (outcome_of s i)).orders

abbrev pub needed : ℕ → ℕ → NeedKind → ℕ → Amount Need
needed i week kind quantity = record { of = record { item = i; week = week; kind = kind }; quantity = quantity }

-- the requirements of the bookings of a week, in order of the bookings
abbrev pub booking_needs : Inputs → ℕ → ℕ → List (Amount Need)
booking_needs s i week = map (λ b. needed i week (Booking b.number) b.line.quantity) (bookings_due s i week)

-- by how much the forecast of a week exceeds the bookings, if it does
abbrev pub forecast_needs : Inputs → ℕ → ℕ → List (Amount Need)
forecast_needs s i week =
    if nat_lt (booked s i week) (forecast s i week) then needed i week Forecast (forecast s i week - booked s i week) ∷ [] else []

-- the requirements of a part's service rows of a week, in table order
abbrev pub service_needs : Inputs → ℕ → ℕ → List (Amount Need)
service_needs s i week = map (λ r. needed i week (Service r.number) r.quantity) (service_rows s i week)

-- the requirements of a component, by the line at a place of the bill, from the parent's orders that are released in a
-- week, by order
abbrev pub line_needs : Inputs → ℕ → ℕ → ℕ → List (Amount Need)
line_needs s i week place =
    let line = line_at s.tables.bills place in
    map (λ n. needed i week (Parent (place + 1) n.0) (n.1.start * line.per)) (filter (λ n. n.1.release == week) (orders_in s line.parent))

-- the requirements from parents' orders in a week, by bill record and then by order
abbrev pub parent_needs : Inputs → ℕ → ℕ → List (Amount Need)
parent_needs s i week = flat_map (line_needs s i week) (lines_of s.tables.bills i)

-- the requirements of a part in a week: those of its service rows, and then those from its parents' orders
abbrev pub part_needs : Inputs → ℕ → ℕ → List (Amount Need)
part_needs s i week = service_needs s i week ++ parent_needs s i week

-- the requirements of an item in a week: for a master item bookings and forecast, otherwise those
-- of a part
abbrev pub needs_in : Inputs → ℕ → ℕ → List (Amount Need)
needs_in s i week = if is_master s i then booking_needs s i week ++ forecast_needs s i week else part_needs s i week

-- the requirements of an item, week by week
unfoldable pub requirements : Inputs → ℕ → List (Amount Need)
requirements s i = flat_map (needs_in s i) (weeks (horizon s))

-- the supplies of an item, in their order
unfoldable pub supplies : Inputs → ℕ → List (Amount Supplied)
supplies s i = amounts_offered (supplies_of s i (plan_in (outcome_of s i)).orders)

-- the pegs of an item
unfoldable pub pegs_of : Inputs → ℕ → List Peg
pegs_of s i = map (peg_of i) (matches (requirements s i) (supplies s i))

-- the pegs of an item among some pegs
abbrev pub pegs_for : ℕ → List Peg → List Peg
pegs_for i pegs = filter (λ g. g.item == i) pegs

-- the pegs of a plan, in table order of the items
abbrev pub plan_pegs : Inputs → List Peg
plan_pegs s = flat_map (pegs_of s) (places s)
