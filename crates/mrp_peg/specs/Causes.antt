-- What a requirement is for: its sources, and the causes that they end in (Orlicky: pegging; profile: causes).
use Rattle.std.specs.Prelude.{ℕ, zero, suc, ◌≡◌, ◌⊎◌, ◌<◌, ◌-◌, ◌↔◌, ◌==◌, ◌&&◌, nat_le, nat_lt, Bool, true, false, if◌then◌else◌, List, [], Option, Some, None, length, filter, Contains, AllPairs}
use Rattle.std.specs.List.{list_any, position_or_len}
use Rattle.mrp_peg.specs.declared.peg.Need.{Need}
use Rattle.mrp_peg.specs.declared.peg.NeedKind.{NeedKind}
use Rattle.mrp_peg.specs.declared.peg.NeedKind.TheVariants as kind
use Rattle.mrp_item.specs.declared.supplies.Supplied.{Supplied}
use Rattle.mrp_item.specs.declared.supplies.Supplied.TheVariants as supplied
use Rattle.mrp_peg.specs.declared.peg.Peg.{Peg}
use Rattle.mrp_peg.specs.declared.peg.Cause.{Cause}
use Rattle.mrp_peg.specs.declared.peg.Cause.TheVariants as cause
use Rattle.mrp_tables.specs.declared.rows.BillLine.{BillLine}
use Rattle.mrp_bill.specs.Bill.{line_at}
use Rattle.mrp_item.specs.Inputs.{Inputs, count}
use Rattle.mrp_peg.specs.Pegging.{pegs_of, plan_pegs, requirements}

abbrev pub same_kind : NeedKind → NeedKind → Bool
same_kind (kind.Booking m) (kind.Booking n) = m == n
same_kind kind.Forecast kind.Forecast = true
same_kind (kind.Service m) (kind.Service n) = m == n
same_kind (kind.Parent line m) (kind.Parent other n) = (line == other) && (m == n)
same_kind _ _ = false

abbrev pub same_need : Need → Need → Bool
same_need a b = (a.item == b.item) && ((a.week == b.week) && same_kind a.kind b.kind)

-- a requirement that the plan has
abbrev pub is_need_of : Inputs → Need → Bool
is_need_of s need = nat_lt need.item (count s) && list_any (λ a. same_need a.of need) (requirements s need.item)

abbrev pub is_order : ℕ → Supplied → Bool
is_order number supplied.Stock = false
is_order number (supplied.Receipt r) = false
is_order number (supplied.Order n) = n == number

-- the parent's order that a requirement is for, by item and number, if its bill line exists
abbrev pub order_for : List BillLine → NeedKind → Option (ℕ × ℕ)
order_for lines (kind.Parent line number) =
    if nat_lt 0 line && nat_le line (length lines) then Some ((line_at lines (line - 1)).parent, number) else None
order_for lines (kind.Booking number) = None
order_for lines kind.Forecast = None
order_for lines (kind.Service number) = None

-- the pegs of an item's order, with its surplus
abbrev pub order_pegs : Inputs → Option (ℕ × ℕ) → List Peg
order_pegs s None = []
order_pegs s (Some order) = filter (λ g. is_order order.1 g.supply) (pegs_of s order.0)

-- the sources of a requirement: the pegs of the parent's order that caused it; none if it is not a requirement of
-- the plan
unfoldable pub sources_of : Inputs → Need → List Peg
sources_of s need = if is_need_of s need then order_pegs s (order_for s.tables.bills need.kind) else []

-- a booking, a forecast or a service row is its own cause
abbrev pub own_cause : Need → NeedKind → Option Cause
own_cause need (kind.Booking number) = Some (cause.Booking need.item number)
own_cause need kind.Forecast = Some (cause.Forecast need.item need.week)
own_cause need (kind.Service number) = Some (cause.Service need.item number)
own_cause need (kind.Parent line number) = None

abbrev pub surplus_cause : ℕ → Supplied → Option Cause
surplus_cause i (supplied.Order number) = Some (cause.Surplus i number)
surplus_cause i supplied.Stock = None
surplus_cause i (supplied.Receipt r) = None

abbrev pub need_or_surplus_cause : Peg → Option Need → Option Cause
need_or_surplus_cause g (Some need) = own_cause need need.kind
need_or_surplus_cause g None = surplus_cause g.item g.supply

-- the cause that a peg ends in, if any: the booking, the forecast or the service row that it serves, or its order's surplus
abbrev pub ends_in : Peg → Option Cause
ends_in g = need_or_surplus_cause g g.need

-- n leads to m in so many steps, each from a requirement to one that a source of it serves
abbrev pub Leads : Inputs → ℕ → Need → Need → Type 0
Leads s zero n m = n ≡ m
Leads s (suc steps) n m = (via : Need) × (g : Peg) × Leads s steps n via × Contains (sources_of s via) g × (g.need ≡ Some m)

-- the sources of n, followed upwards, end in c
abbrev pub EndsIn : Inputs → Need → Cause → Type 0
EndsIn s n c = (steps : ℕ) × (m : Need) × (g : Peg) × Leads s steps n m × Contains (sources_of s m) g × (ends_in g ≡ Some c)

-- a cause of a requirement of the plan
abbrev pub IsCause : Inputs → Need → Cause → Type 0
IsCause s n c = (is_need_of s n ≡ true) × ((own_cause n n.kind ≡ Some c) ⊎ EndsIn s n c)

abbrev pub same_cause : Cause → Cause → Bool
same_cause (cause.Booking i m) (cause.Booking j n) = (i == j) && (m == n)
same_cause (cause.Forecast i m) (cause.Forecast j n) = (i == j) && (m == n)
same_cause (cause.Service i m) (cause.Service j n) = (i == j) && (m == n)
same_cause (cause.Surplus i m) (cause.Surplus j n) = (i == j) && (m == n)
same_cause _ _ = false

abbrev pub tells : Cause → Option Cause → Bool
tells c None = false
tells c (Some d) = same_cause c d

-- the place of the first peg of the plan that ends in a cause
abbrev pub place_of : Inputs → Cause → ℕ
place_of s c = position_or_len (λ g. tells c (ends_in g)) (plan_pegs s)

-- the causes of a requirement, each once, in order of item and peg
pub record IsTrace (s : Inputs) (n : Need) (causes : List Cause) : Type 0 where
  pub each : (c : Cause) → Contains causes c ↔ IsCause s n c
  pub order : AllPairs (λ c d. place_of s c < place_of s d) causes
