-- The stock on hand and the scheduled receipts of a planned item add up to a quantity.
use Rattle.std.proofs.Common.{◌≡◌, ◌∙◌, ℕ, ◌+◌, ◌≤◌, ◌||◌, Bool, true, false, ap, sym, refl, arith}
use Rattle.std.proofs.lemmas.Bool.{ltb-false}
use Rattle.std.specs.Prelude.{sum, nat_lt}
use Rattle.mrp_qty.specs.Quantity.{greatest_quantity}
use Rattle.mrp_phase.specs.Weeks.{sum_to, in_week}
use Rattle.mrp_phase.proofs.WeekRows.{length-row, sum_to_whole}
use Rattle.mrp_item.specs.Inputs.{Inputs, horizon}
use Rattle.mrp_item.specs.Rows.{scheduled_in, stock_of}
use Rattle.mrp_item.specs.Plan.{Planned, ItemPlan, is_too_large, outcome_of}
use Rattle.mrp_item.proofs.PlannedRows.{plan_below, step_of}

middle : (a b c : Bool) → (a || (b || c)) ≡ false → b ≡ false
middle true b c e = absurd (cc)
middle false true c e = absurd (cc)
middle false false c e = refl

pub planned-supplies : (s : Inputs) (i : ℕ) (plan : ItemPlan) → outcome_of s i ≡ Planned plan → (stock_of s i).on_hand + sum (stock_of s i).scheduled ≤ greatest_quantity
planned-supplies s i plan e =
    let p : ItemPlan = plan_below s i in
    let small : is_too_large s i p ≡ false = (step_of s i plan e).small in
    let within : nat_lt greatest_quantity ((stock_of s i).on_hand + sum_to (stock_of s i).scheduled (horizon s) + in_week p.receipts (horizon s)) ≡ false = middle _ _ _ small in
    let whole : sum_to (stock_of s i).scheduled (horizon s) ≡ sum (stock_of s i).scheduled =
    ap (sum_to (stock_of s i).scheduled) (sym (length-row (scheduled_in s i) (horizon s))) ∙ sum_to_whole (stock_of s i).scheduled in
    let at_most = ltb-false greatest_quantity ((stock_of s i).on_hand + sum_to (stock_of s i).scheduled (horizon s) + in_week p.receipts (horizon s)) within in
    omega (arith, whole, at_most)
