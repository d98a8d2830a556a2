-- The section `orders` (profile).
use Rattle.std.specs.Prelude.{ℕ, List, [], ◌∷◌, codes, decimal}
use Rattle.mrp_item.specs.declared.order.OrderKind.{OrderKind}
use Rattle.mrp_item.specs.declared.order.OrderKind.TheVariants.{Firm, Planned}
use Rattle.mrp_item.specs.declared.order.Order.{Order}
use Rattle.mrp_report.specs.page.Rows.{row}

-- the word for an order's kind: firm or planned
abbrev pub kind_word : OrderKind → List ℕ
kind_word Firm = codes "firm"
kind_word Planned = codes "planned"

-- an order of an item, with its number
abbrev pub order_text : List ℕ → ℕ × Order → List ℕ
order_text name (number, o) =
    row (name ∷ decimal number ∷ kind_word o.kind ∷ decimal o.due ∷ decimal o.quantity ∷ decimal o.start ∷ decimal o.release ∷ decimal o.late ∷ [])
