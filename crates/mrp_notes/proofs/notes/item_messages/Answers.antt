use Rattle.std.proofs.Common.{◌≡◌, ◌∙◌, List, [], ◌∷◌, length, sum, ap, subst, refl, arith}
use Rattle.std.specs.Prelude.{IfOk, drop}
use Rattle.mrp_net.specs.declared.stock.Stock.{Stock}
use Rattle.mrp_item.specs.Inputs.{horizon}
use Rattle.mrp_item.specs.Rows.{on_hand, stock_of}
use Rattle.mrp_item.specs.Supplies.{stock_supply, supplies_to_come}
use Rattle.mrp_item.specs.declared.supplies.Supply.{Supply}
use Rattle.mrp_notes.specs.declared.message.Message.{Message}
use Rattle.mrp_notes.specs.Messages.{messages_of}
use Rattle.mrp_notes.specs.Told.{told}
use Rattle.mrp_item.proofs.PlannedRows.{planned_rows}
use Rattle.mrp_notes.proofs.notes.item_messages.Goals as goal

pub told-requires-clause-weeks : goal.told-requires-clause-weeks
told-requires-clause-weeks c =
    let planned = c.args.planned.now in
    let rows = planned_rows planned.inputs planned.item planned.plan c.gross.ensures.outcome in
    let gross : c.as_slice-gross.result.now ≡ planned.plan.gross = c.as_slice-gross.ensures ∙ c.gross.ensures.gross in
    let weeks = c.weeks-horizon.ensures.value ∙ ap horizon (c.deref.ensures ∙ c.inputs.ensures.inputs) in
    omega (arith, ap length gross, rows.weeks, weeks)

pub told-requires-clause-within : goal.told-requires-clause-within
told-requires-clause-within c =
    let planned = c.args.planned.now in
    let rows = planned_rows planned.inputs planned.item planned.plan c.gross.ensures.outcome in
    let gross : c.as_slice-gross.result.now ≡ planned.plan.gross = c.as_slice-gross.ensures ∙ c.gross.ensures.gross in
    omega (arith, ap sum gross, ap (λ (stock : Stock). stock.safety) c.in_ok-stock.ensures, rows.within)

pub split_at-requires : goal.split_at-requires
split_at-requires c =
    let long = ap length (c.as_slice.ensures.value ∙ c.in_ok-supplies.ensures) in
    omega (arith, long)

-- what comes is after what is on hand
behind : (x : Supply) (xs : List Supply) → drop 1 (x ∷ xs) ≡ xs
behind x [] = refl
behind x (y ∷ xs) = refl

pub returns : goal.returns
returns c =
    let planned = c.args.planned.now in
    let s = planned.inputs in
    let i = planned.item in
    let to_come : c.split_at.result.1.now ≡ supplies_to_come s i planned.plan.orders =
    c.split_at.ensures.back ∙ ap (drop 1) (c.as_slice.ensures.value ∙ c.in_ok-supplies.ensures) ∙ behind (stock_supply (on_hand s i)) (supplies_to_come s i planned.plan.orders) in
    let gross : c.as_slice-gross.result.now ≡ planned.plan.gross = c.as_slice-gross.ensures ∙ c.gross.ensures.gross in
    let item : c.item.result ≡ i = c.item.ensures.item in
    let stock : c.in_ok-stock.stock ≡ stock_of s i = c.in_ok-stock.ensures in
    let Q : List Message → Type 0 = λ l. IfOk c.told.result (λ messages. messages.items ≡ l) in
    let whole : told c.item.result c.as_slice-gross.result.now c.in_ok-stock.stock c.split_at.result.1.now ≡ messages_of s i planned.plan = λ k. told (item k) (gross k) (stock k) (to_come k) in
    subst Q whole c.told.ensures
