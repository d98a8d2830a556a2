use Rattle.std.proofs.Common.{◌≡◌, ◌∙◌, ◌+◌, ◌<◌, inr, length, sym, ap, arith}
use Rattle.std.specs.Prelude.{sum}
use Rattle.std.proofs.lemmas.Result.{err_from_is_err_and}
use Rattle.mrp_phase.specs.Weeks.{in_week}
use Rattle.mrp_phase.proofs.WeekRows.{length-row}
use Rattle.mrp_net.specs.declared.stock.Stock.{Stock}
use Rattle.mrp_lots.specs.Lots.{receipts}
use Rattle.mrp_lots.specs.LotLaws.{quantity_of-none}
use Rattle.mrp_item.specs.Inputs.{horizon, item_at}
use Rattle.mrp_item.specs.Lot.{rule_of}
use Rattle.mrp_item.specs.Rows.{scheduled_in}
use Rattle.mrp_item.specs.Plan.{needs_of, receipts_of}
use Rattle.mrp_item.proofs.ReceiptRows.{last_is, length-needs, needs_are, quantity_of-within, receipts_are}
use Rattle.mrp_item.proofs.planning.receipts_row.Goals as goal

pub need-requires : goal.need-requires
need-requires c =
    let s = c.args.inputs.now in
    ap (λ (st : Stock). length st.scheduled) c.requires.stock ∙ length-row (scheduled_in s c.args.item) (horizon s) ∙ sym c.requires.weeks

pub returns-in_err-received-clause-over : goal.returns-in_err-received-clause-over
returns-in_err-received-clause-over c =
    let p = err_from_is_err_and c.from_residual-in_err-received.result c.from_residual-in_err-received.ensures.1 in
    let s = c.args.inputs.now in
    let i = c.args.item in
    let gross = c.args.gross.now in
    let needs = c.in_ok-needs.needs in
    let are : needs ≡ needs_of s i gross = needs_are s i gross needs c.args.stock.now c.requires.weeks c.requires.stock c.in_ok-needs.ensures.value in
    let entry : c.entry.result ≡ item_at s i = c.entry.ensures.value in
    let some : 0 < horizon s = omega (arith, c.weeks-weeks.ensures.first, c.weeks-weeks.ensures.value) in
    let last = last_is s i gross needs c.entry.result some are entry in
    rw (p.1, p.2) (λ over.
    let past = c.in_err-received.ensures.too_large over in
    inr (omega (arith, past, last)))

pub at-requires-clause-first : goal.at-requires-clause-first
at-requires-clause-first c = c.weeks-weeks.ensures.first

pub at-requires-clause-last : goal.at-requires-clause-last
at-requires-clause-last c =
    let s = c.args.inputs.now in
    let i = c.args.item in
    let gross = c.args.gross.now in
    let needs = c.in_ok-needs.needs in
    let are : needs ≡ needs_of s i gross = needs_are s i gross needs c.args.stock.now c.requires.weeks c.requires.stock c.in_ok-needs.ensures.value in
    let size : length c.in_ok-received.received ≡ length needs = ap length c.in_ok-received.ensures.value ∙ length-row (receipts (rule_of c.entry.result) (length needs) (in_week needs)) (length needs) in
    omega (arith, size, length-needs s i gross needs are, c.weeks-weeks.ensures.value)

pub returns-clause-value : goal.returns-clause-value
returns-clause-value c =
    let s = c.args.inputs.now in
    let i = c.args.item in
    let gross = c.args.gross.now in
    let needs = c.in_ok-needs.needs in
    let are : needs ≡ needs_of s i gross = needs_are s i gross needs c.args.stock.now c.requires.weeks c.requires.stock c.in_ok-needs.ensures.value in
    receipts_are s i gross needs c.in_ok-received.received c.entry.result are c.entry.ensures.value c.in_ok-received.ensures.value

pub returns-clause-within : goal.returns-clause-within
returns-clause-within c =
    let s = c.args.inputs.now in
    let i = c.args.item in
    let gross = c.args.gross.now in
    let needs = c.in_ok-needs.needs in
    let received = c.in_ok-received.received in
    let stock = c.args.stock.now in
    let is = c.requires.stock in
    let are : needs ≡ needs_of s i gross = needs_are s i gross needs stock c.requires.weeks is c.in_ok-needs.ensures.value in
    let row_is : received ≡ receipts_of s i gross = receipts_are s i gross needs received c.entry.result are c.entry.ensures.value c.in_ok-received.ensures.value in
    let last : c.at.result ≡ in_week (receipts_of s i gross) (horizon s) = c.at.ensures ∙ ap (in_week received) c.weeks-weeks.ensures.value ∙ ap (λ xs. in_week xs (horizon s)) row_is in
    record {
      requirements = omega (arith, c.in_ok-needs.ensures.requirements, ap (λ (x : Stock). x.safety) is);
      supplies = omega (arith, quantity_of-within c.in_ok-or_over.field-0 (stock.on_hand + sum stock.scheduled + c.at.result) (sym c.in_ok-or_over.ensures.found ∙ c.supplies.ensures), ap (λ (x : Stock). x.on_hand) is, ap (λ (x : Stock). sum x.scheduled) is, last);
    }

pub returns-in_err-or_over-clause-over : goal.returns-in_err-or_over-clause-over
returns-in_err-or_over-clause-over c =
    let p = err_from_is_err_and c.from_residual-in_err-or_over.result c.from_residual-in_err-or_over.ensures.1 in
    let s = c.args.inputs.now in
    let i = c.args.item in
    let gross = c.args.gross.now in
    let needs = c.in_ok-needs.needs in
    let received = c.in_ok-received.received in
    let stock = c.args.stock.now in
    let is = c.requires.stock in
    let are : needs ≡ needs_of s i gross = needs_are s i gross needs stock c.requires.weeks is c.in_ok-needs.ensures.value in
    let row_is : received ≡ receipts_of s i gross = receipts_are s i gross needs received c.entry.result are c.entry.ensures.value c.in_ok-received.ensures.value in
    let last : c.at.result ≡ in_week (receipts_of s i gross) (horizon s) = c.at.ensures ∙ ap (in_week received) c.weeks-weeks.ensures.value ∙ ap (λ xs. in_week xs (horizon s)) row_is in
    let none = quantity_of-none (stock.on_hand + sum stock.scheduled + c.at.result) (sym c.supplies.ensures ∙ c.in_err-or_over.ensures.found) in
    rw (p.1, p.2) (λ _. inr (omega (arith, none, ap (λ (x : Stock). x.on_hand) is, ap (λ (x : Stock). sum x.scheduled) is, last)))
