-- Which bookings are at risk, with which order and how many pieces.
use Rattle.std.specs.Prelude.{ℕ, ◌≡◌, ◌<◌, ◌==◌, ◌↔◌, Bool, false, IsTrue, if◌then◌else◌, List, Option, Some, None, slice_index_or, sum_by}
use Rattle.mrp_risk.specs.declared.peg.Need.{Need}
use Rattle.mrp_risk.specs.declared.peg.Need.TheVariants.{Booking, Order, Other}
use Rattle.mrp_risk.specs.declared.peg.Peg.{Peg}
use Rattle.mrp_risk.specs.declared.risk.Risk.{Risk}
use Rattle.mrp_risk.specs.Chains.{LeadsTo, HangsOn, IsLatest, weeks_late}

-- the pieces of a peg are of an order that is late or leads to a late one
abbrev pub IsDelayed : List ℕ → List Peg → Peg → Type 0
IsDelayed lateness pegs peg = (first last : ℕ) × (peg.supply ≡ Some first) × LeadsTo pegs first last × (0 < weeks_late lateness last)

-- the delayed pieces of a booking: the sum over those of its pegs that are delayed
pub record AreDelayedPieces (lateness : List ℕ) (pegs : List Peg) (booking pieces : ℕ) : Type 0 where
  pub delayed : Peg → Bool
  pub decided : (peg : Peg) → IsTrue (delayed peg) ↔ ((peg.need ≡ Booking booking) × IsDelayed lateness pegs peg)
  pub sum : pieces ≡ sum_by (λ peg. if delayed peg then peg.pieces else 0) pegs

-- a booking waits for late orders: the latest of them, and its delayed pieces
pub record IsRisk (lateness : List ℕ) (pegs : List Peg) (booking : ℕ) (risk : Risk) : Type 0 where
  pub latest : IsLatest lateness (HangsOn pegs booking) risk.order
  pub pieces : AreDelayedPieces lateness pegs booking risk.pieces

-- what is answered of a booking: its risk, or nothing if it waits for no late order
abbrev pub IsAnswer : List ℕ → List Peg → ℕ → Option Risk → Type 0
IsAnswer lateness pegs booking None = (order : ℕ) → HangsOn pegs booking order → weeks_late lateness order ≡ 0
IsAnswer lateness pegs booking (Some risk) = IsRisk lateness pegs booking risk

abbrev pub risk_at : List (Option Risk) → ℕ → Option Risk
risk_at risks booking = slice_index_or risks booking None

-- whether a need is a booking
abbrev pub is_for : ℕ → Need → Bool
is_for booking (Booking other) = other == booking
is_for booking (Order order) = false
is_for booking Other = false

-- the pieces of those pegs that are for a booking
abbrev pub pieces_of : ℕ → Peg → ℕ
pieces_of booking peg = if is_for booking peg.need then peg.pieces else 0
