-- Pegs are gone through one by one, and their pieces added to the bookings that they are for.
use Rattle.std.specs.Prelude.{ℕ, ◌≡◌, ◌≢◌, ◌⊎◌, ◌+◌, ◌*◌, ◌^◌, ◌≤◌, ◌<◌, ◌&&◌, Bool, if◌then◌else◌, List, Option, Some, None, is_some, length, sum_by, take}
use Rattle.mrp_risk.specs.declared.peg.Need.{Need}
use Rattle.mrp_risk.specs.declared.peg.Need.TheVariants.{Booking, Order, Other}
use Rattle.mrp_risk.specs.declared.peg.Peg.{Peg}
use Rattle.mrp_risk.specs.declared.risk.Risk.{Risk}
use Rattle.mrp_risk.specs.Chains.{peg_at, ComesFirst}
use Rattle.mrp_risk.specs.Marks.{mark_at}
use Rattle.mrp_risk.specs.Risks.{is_for, risk_at}

-- the mark of the order that supplies a peg
abbrev pub mark_of : List (Option ℕ) → Option ℕ → Option ℕ
mark_of marks None = None
mark_of marks (Some order) = mark_at marks order

-- whether a peg is for a booking, and its order is marked
abbrev pub is_marked_for : List (Option ℕ) → ℕ → Peg → Bool
is_marked_for marks booking peg = is_for booking peg.need && is_some (mark_of marks peg.supply)

-- the pieces of such a peg
abbrev pub marked_pieces : List (Option ℕ) → ℕ → Peg → ℕ
marked_pieces marks booking peg = if is_marked_for marks booking peg then peg.pieces else 0

-- one of the first pegs is for a booking, and its order has this late order as mark
abbrev pub WaitsFor : List (Option ℕ) → List Peg → ℕ → ℕ → ℕ → Type 0
WaitsFor marks pegs end booking late = (k : ℕ) × (k < end) × ((peg_at pegs k).need ≡ Booking booking) × (mark_of marks (peg_at pegs k).supply ≡ Some late)

-- the pieces so far
abbrev pub pieces_in : Option Risk → ℕ
pieces_in None = 0
pieces_in (Some risk) = risk.pieces

-- a booking has, by the first pegs, the first in falling lateness of the marks, if there are any
abbrev pub IsFirstTo : List ℕ → List (Option ℕ) → List Peg → ℕ → ℕ → Option Risk → Type 0
IsFirstTo lateness marks pegs end booking None = (late : ℕ) → WaitsFor marks pegs end booking late → ⊥
IsFirstTo lateness marks pegs end booking (Some risk) =
    WaitsFor marks pegs end booking risk.order × ((late : ℕ) → WaitsFor marks pegs end booking late → ComesFirst lateness risk.order late)

-- the risks by the first pegs
pub record AreRisksTo (lateness : List ℕ) (marks : List (Option ℕ)) (pegs : List Peg) (bookings end : ℕ) (risks : List (Option Risk)) : Type 0 where
  pub size : length risks ≡ bookings
  pub first : (booking : ℕ) → booking < bookings → IsFirstTo lateness marks pegs end booking (risk_at risks booking)
  pub pieces : (booking : ℕ) → booking < bookings → pieces_in (risk_at risks booking) ≡ sum_by (marked_pieces marks booking) (take end pegs)
  pub small : (booking : ℕ) → booking < bookings → pieces_in (risk_at risks booking) ≤ end * 2 ^ 64

-- the first in falling lateness of an order and the one so far
abbrev pub IsFirstWith : List ℕ → Option Risk → ℕ → ℕ → Type 0
IsFirstWith lateness None order first = first ≡ order
IsFirstWith lateness (Some risk) order first = ((first ≡ risk.order) ⊎ (first ≡ order)) × ComesFirst lateness first risk.order × ComesFirst lateness first order

-- a risk with the pieces of one more peg, which wait for a late order
pub record IsWith (lateness : List ℕ) (risk : Option Risk) (order pieces : ℕ) (new : Risk) : Type 0 where
  pub first : IsFirstWith lateness risk order new.order
  pub sum : new.pieces ≡ pieces_in risk + pieces
  pub small : new.pieces ≤ pieces_in risk + 2 ^ 64

-- a booking's risk with that peg, and the others' unchanged
pub record AddsTo (lateness : List ℕ) (booking order pieces : ℕ) (old new : List (Option Risk)) : Type 0 where
  pub size : length new ≡ length old
  pub risk : Risk
  pub put : risk_at new booking ≡ Some risk
  pub more : IsWith lateness (risk_at old booking) order pieces risk
  pub others : (other : ℕ) → other ≢ booking → risk_at new other ≡ risk_at old other

-- pieces for a need are added if it is a booking
abbrev pub AddsToNeed : List ℕ → Need → ℕ → ℕ → List (Option Risk) → List (Option Risk) → Type 0
AddsToNeed lateness (Booking booking) order pieces old new = AddsTo lateness booking order pieces old new
AddsToNeed lateness (Order parent) order pieces old new = new ≡ old
AddsToNeed lateness Other order pieces old new = new ≡ old

-- the pieces of a peg are added if its order is marked
abbrev pub AddsPeg : List ℕ → Peg → Option ℕ → List (Option Risk) → List (Option Risk) → Type 0
AddsPeg lateness peg None old new = new ≡ old
AddsPeg lateness peg (Some order) old new = AddsToNeed lateness peg.need order peg.pieces old new
