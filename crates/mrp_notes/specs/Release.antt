-- What messages ask of a supply: whether planning may change it, and what is said of its release.
use Rattle.std.specs.Prelude.{ℕ, ◌==◌, nat_lt, Bool, true, if◌then◌else◌, Option, Some, None}
use Rattle.mrp_item.specs.declared.order.Order.{Order}
use Rattle.mrp_item.specs.declared.supplies.Supply.{Supply}
use Rattle.mrp_item.specs.Orders.{is_firm_order}
use Rattle.mrp_notes.specs.declared.message.Advice.{Advice}
use Rattle.mrp_notes.specs.declared.message.Advice.TheVariants.{Release, PastDue}

-- what is said of an order's release: that it is past due, or due in week 1 (APICS Dictionary: order release, past due)
abbrev pub action_of : Order → Option Advice
action_of order = if nat_lt 0 order.late then Some (PastDue order.late) else if order.release == 1 then Some Release else None

-- the same for a supply that may be an order; what is on hand and open receipts were released before the
-- horizon began
abbrev pub action_on_order : Option Order → Option Advice
action_on_order None = None
action_on_order (Some order) = action_of order

abbrev pub action_on : Supply → Option Advice
action_on x = action_on_order x.order

-- planning may change planned orders only
abbrev pub is_fixed_order : Option Order → Bool
is_fixed_order None = true
is_fixed_order (Some order) = is_firm_order order.kind

abbrev pub is_fixed : Supply → Bool
is_fixed x = is_fixed_order x.order
