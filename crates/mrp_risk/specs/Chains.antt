-- What needs wait for: chains of pegs from a need down to an order.
use Rattle.std.specs.Prelude.{ℕ, zero, suc, ◌≡◌, ◌≤◌, ◌<◌, List, length, All, IfSome, Some, None, ⊤, slice_index, slice_index_or}
use Rattle.mrp_risk.specs.declared.peg.Need.{Need}
use Rattle.mrp_risk.specs.declared.peg.Need.TheVariants.{Booking, Order, Other}
use Rattle.mrp_risk.specs.declared.peg.Peg.{Peg}

-- the peg at a place
abbrev pub peg_at : List Peg → ℕ → Peg
peg_at pegs place = slice_index_or pegs place (record { need = Other; supply = None; pieces = 0 })

-- a need is no order, or one of the first
abbrev pub IsWithin : ℕ → Need → Type 0
IsWithin orders (Order order) = order < orders
IsWithin orders (Booking booking) = ⊤
IsWithin orders Other = ⊤

-- the orders that pegs name are among the first
abbrev pub AreWithin : ℕ → List Peg → Type 0
AreWithin orders pegs = All (λ peg. IsWithin orders peg.need × IfSome peg.supply (λ order. order < orders)) pegs

-- a need is no booking, or one of the first
abbrev pub IsBookedWithin : ℕ → Need → Type 0
IsBookedWithin bookings (Booking booking) = booking < bookings
IsBookedWithin bookings (Order order) = ⊤
IsBookedWithin bookings Other = ⊤

-- the bookings that pegs name are among the first
abbrev pub AreBookedWithin : ℕ → List Peg → Type 0
AreBookedWithin bookings pegs = All (λ peg. IsBookedWithin bookings peg.need) pegs

-- a need gets pieces of an order by some peg
abbrev pub IsServed : List Peg → Need → ℕ → Type 0
IsServed pegs need order = (k : ℕ) × (k < length pegs) × ((peg_at pegs k).need ≡ need) × ((peg_at pegs k).supply ≡ Some order)

-- a chain of n pegs leads from an order down to another: each order needs pieces of the next
abbrev pub Chain : List Peg → ℕ → ℕ → ℕ → Type 0
Chain pegs zero order last = order ≡ last
Chain pegs (suc n) order last = (next : ℕ) × IsServed pegs (Order order) next × Chain pegs n next last

-- an order is another, or waits for it through any number of orders
abbrev pub LeadsTo : List Peg → ℕ → ℕ → Type 0
LeadsTo pegs order last = (n : ℕ) × Chain pegs n order last

-- a booking waits for an order: it gets pieces of an order that leads to that one
abbrev pub HangsOn : List Peg → ℕ → ℕ → Type 0
HangsOn pegs booking last = (first : ℕ) × IsServed pegs (Booking booking) first × LeadsTo pegs first last

-- how many weeks an order is late
abbrev pub weeks_late : List ℕ → ℕ → ℕ
weeks_late lateness order = slice_index lateness order

-- of two orders the first in falling lateness: it is later, or as late and has the lesser number
pub record ComesFirst (lateness : List ℕ) (order other : ℕ) : Type 0 where
  pub later : weeks_late lateness other ≤ weeks_late lateness order
  pub lesser : weeks_late lateness other ≡ weeks_late lateness order → order ≤ other

-- an order is late, and among some orders the first in falling lateness
pub record IsLatest (lateness : List ℕ) (IsAmong : ℕ → Type 0) (order : ℕ) : Type 0 where
  pub late : 0 < weeks_late lateness order
  pub among : IsAmong order
  pub first : (other : ℕ) → IsAmong other → ComesFirst lateness order other
