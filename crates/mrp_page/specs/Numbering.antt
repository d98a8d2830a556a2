-- Pegs by the numbers of what they join: of orders their places, of bookings the places of their first pegs.
use Rattle.std.specs.Prelude.{ℕ, zero, suc, ◌≡◌, ◌+◌, ◌<◌, ◌&&◌, Bool, List, [], Option, None, Some, codes, drop, length, map, slice_index_or, if◌then◌else◌}
use Rattle.std.specs.List.{range_with_len, slice_get}
use Rattle.mrp_day.specs.declared.section.Section.TheVariants as s
use Rattle.mrp_page.specs.Amounts.{amount}
use Rattle.mrp_page.specs.Orders.{is_numbered, is_order, place_of}
use Rattle.mrp_page.specs.Row.{RowView, cell_at, is_of}
use Rattle.mrp_page.specs.Rows.{start_of}
use Rattle.mrp_page.specs.Template.{has_word}
use Rattle.mrp_risk.specs.declared.peg.Need.{Need}
use Rattle.mrp_risk.specs.declared.peg.Need.TheVariants.{Booking, Order, Other}
use Rattle.mrp_risk.specs.declared.peg.Peg.{Peg}
use Rattle.mrp_risk.specs.declared.risk.Risk.{Risk}
use Rattle.mrp_risk.specs.Risks.{IsAnswer, risk_at}

-- the row at a place
abbrev pub row_at : List RowView → ℕ → RowView
row_at rows place = slice_index_or rows place (record { section = s.Run; cells = [] })

-- a place, if its row is there and passes
abbrev pub row_place : (RowView → Bool) → ℕ → Option RowView → Option ℕ
row_place passes place None = None
row_place passes place (Some row) = if passes row then Some place else None

-- the place among all orders of the order with this place among those of an item, if it passes
abbrev pub order_place : (RowView → Bool) → List RowView → List ℕ → ℕ → Option ℕ
order_place passes orders name place = row_place passes (start_of orders name + place) (slice_get (drop (start_of orders name) orders) place)

-- the place of the order of a parent that a peg is for, if it is kept
abbrev pub parent_place : List RowView → RowView → Option ℕ
parent_place orders peg = order_place (is_numbered (cell_at peg 4) (cell_at peg 3)) orders (cell_at peg 4) (place_of (cell_at peg 3))

-- the place of the order that supplies a peg, if it is one and is kept
abbrev pub supplier_place : List RowView → RowView → Option ℕ
supplier_place orders peg = order_place (is_order (cell_at peg 0) (cell_at peg 6) (cell_at peg 7)) orders (cell_at peg 0) (place_of (cell_at peg 7))

-- an order is needed by the order at a place, if there is one
abbrev pub parent_need : Option ℕ → Need
parent_need None = Other
parent_need (Some place) = Order place

-- what a peg is for: a booking, by a number that is given, an order, or something else
abbrev pub need_of : List RowView → RowView → ℕ → Need
need_of orders peg booking =
    if has_word 2 (codes "booking") peg then Booking booking
    else if has_word 2 (codes "parent") peg then parent_need (parent_place orders peg)
    else Other

-- a peg by the numbers of what it joins
abbrev pub peg_of : List RowView → RowView → ℕ → Peg
peg_of orders peg booking = record { need = need_of orders peg booking; supply = supplier_place orders peg; pieces = amount (cell_at peg 8) }

-- a peg is for the booking that the peg before it is for: it has the same item, kind of need and number
abbrev pub is_same_booking : RowView → RowView → Bool
is_same_booking previous peg = is_of (cell_at previous 0) peg && (has_word 2 (cell_at previous 2) peg && has_word 3 (cell_at previous 3) peg)

-- the place of the first of the pegs that stand together and are for one booking
abbrev pub booking_place : List RowView → ℕ → ℕ
booking_place pegs zero = 0
booking_place pegs (suc place) = if is_same_booking (row_at pegs place) (row_at pegs (suc place)) then booking_place pegs place else suc place

-- the peg at a place by the numbers of what it joins
abbrev pub numbered_peg : List RowView → List RowView → ℕ → Peg
numbered_peg orders pegs place = peg_of orders (row_at pegs place) (booking_place pegs place)

-- the pegs by the numbers of what they join
abbrev pub numbered_pegs : List RowView → List RowView → List Peg
numbered_pegs orders pegs = map (numbered_peg orders pegs) (range_with_len 0 (length pegs))

-- how many weeks an order is late
abbrev pub late_weeks : RowView → ℕ
late_weeks order = amount (cell_at order 7)

abbrev pub lateness_of : List RowView → List ℕ
lateness_of orders = map late_weeks orders

-- for each peg whether the booking whose first peg it is waits for a late order; of any other peg the answer is that it does not
pub record AreAnswers (orders pegs : List RowView) (risks : List (Option Risk)) : Type 0 where
  pub size : length risks ≡ length pegs
  pub answers : (place : ℕ) → place < length pegs → IsAnswer (lateness_of orders) (numbered_pegs orders pegs) place (risk_at risks place)
