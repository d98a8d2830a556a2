use Rattle.std.proofs.Common.{◌≡◌, ◌∙◌, ap, sym, refl, true, false}
use Rattle.mrp_tables.specs.Items as items
use Rattle.mrp_item.specs.Inputs.{is_master}
use Rattle.mrp_item.specs.Dues.{due_sum}
use Rattle.mrp_item.proofs.DueRows.{due_sum-firm, due_sum-receipts}
use Rattle.mrp_item.proofs.supply.scheduled_dues.Goals as goal

pub returns-then-is_master : goal.returns-then-is_master
returns-then-is_master c = λ week.
    let s = c.args.inputs.now in
    let i = c.args.item in
    let master : is_master s i ≡ true = sym (ap (λ e. items.is_master e.class) c.entry.ensures.value) ∙ sym c.is_master.ensures ∙ c.if-is_master.true in
    ap (λ dues. due_sum dues week) c.firm.ensures ∙ due_sum-firm s i week ∙ rw master refl

pub returns-else-is_master : goal.returns-else-is_master
returns-else-is_master c = λ week.
    let s = c.args.inputs.now in
    let i = c.args.item in
    let part : is_master s i ≡ false = sym (ap (λ e. items.is_master e.class) c.entry.ensures.value) ∙ sym c.is_master.ensures ∙ c.if-is_master.false in
    ap (λ dues. due_sum dues week) c.receipts.ensures.dues ∙ due_sum-receipts s i week ∙ rw part refl
