-- What a walk up from a requirement has found.
use Rattle.std.specs.Prelude.{ℕ, ◌==◌, ◌&&◌, Bool, false, if◌then◌else◌, List, Option, Some, None, filter, Contains}
use Rattle.std.specs.List.{list_any}
use Rattle.indexmap.specs.IndexSet.{insert_key}
use Rattle.mrp_peg.specs.declared.peg.Need.{Need}
use Rattle.mrp_item.specs.declared.supplies.Supplied.{Supplied}
use Rattle.mrp_item.specs.declared.supplies.Supplied.TheVariants as supplied
use Rattle.mrp_peg.specs.declared.peg.Peg.{Peg}
use Rattle.mrp_peg.specs.declared.peg.Cause.{Cause}
use Rattle.mrp_peg.specs.declared.peg.Cause.TheVariants as cause
use Rattle.mrp_tables.specs.declared.rows.BillLine.{BillLine}
use Rattle.mrp_item.specs.Inputs.{Inputs}
use Rattle.mrp_peg.specs.Pegging.{pegs_of}
use Rattle.mrp_peg.specs.Causes.{ends_in, order_for, same_cause}

-- a list without repeats, with one more element
abbrev pub with_any : {K : Type 0} → (K → K → Bool) → List K → Option K → List K
with_any eq ks None = ks
with_any eq ks (Some k) = insert_key eq ks k

-- causes, and the one that a peg ends in
abbrev pub with_told : List Cause → Peg → List Cause
with_told causes g = with_any same_cause causes (ends_in g)

abbrev pub same_order : ℕ × ℕ → ℕ × ℕ → Bool
same_order a b = (a.0 == b.0) && (a.1 == b.1)

-- the parent's order whose requirement a peg serves, by the parent's place and the order's number
abbrev pub order_served : List BillLine → Option Need → Option (ℕ × ℕ)
order_served lines None = None
order_served lines (Some need) = order_for lines need.kind

-- orders, and the one whose requirement a peg serves
abbrev pub with_order : List BillLine → List (ℕ × ℕ) → Peg → List (ℕ × ℕ)
with_order lines orders g = with_any same_order orders (order_served lines g.need)

abbrev pub same_number : ℕ → ℕ → Bool
same_number i j = i == j

-- the item of an order
abbrev pub item_of : Option (ℕ × ℕ) → Option ℕ
item_of None = None
item_of (Some order) = Some order.0

-- items, and that of the order whose requirement a peg serves
abbrev pub with_item : List BillLine → List ℕ → Peg → List ℕ
with_item lines items g = with_any same_number items (item_of (order_served lines g.need))

-- the items of these orders are among these items
abbrev pub AreMarked : List (ℕ × ℕ) → List ℕ → Type 0
AreMarked orders items = (e : ℕ × ℕ) → Contains orders e → Contains items e.0

-- whether an item's supply is one of these orders
abbrev pub is_reached : List (ℕ × ℕ) → ℕ → Supplied → Bool
is_reached orders i supplied.Stock = false
is_reached orders i (supplied.Receipt r) = false
is_reached orders i (supplied.Order number) = list_any (same_order (i, number)) orders

-- the pegs of an item's orders that were reached
abbrev pub followed : Inputs → List (ℕ × ℕ) → ℕ → List Peg
followed s orders i = filter (λ g. is_reached orders i g.supply) (pegs_of s i)

-- the cause that a peg ends in, if it is among these causes
abbrev pub known : List Cause → Option Cause → Option Cause
known causes None = None
known causes (Some c) = if list_any (same_cause c) causes then Some c else None

-- causes, and the one that a peg ends in if that is known
abbrev pub with_known : List Cause → List Cause → Peg → List Cause
with_known causes found g = with_any same_cause found (known causes (ends_in g))

-- the item whose pegs end in a cause
abbrev pub item_told : Cause → ℕ
item_told (cause.Booking i number) = i
item_told (cause.Forecast i week) = i
item_told (cause.Service i row) = i
item_told (cause.Surplus i number) = i

-- the items whose pegs end in these causes are among these items
abbrev pub AreAmong : List Cause → List ℕ → Type 0
AreAmong causes items = (c : Cause) → Contains causes c → Contains items (item_told c)
