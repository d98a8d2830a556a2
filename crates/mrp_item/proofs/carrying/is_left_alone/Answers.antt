use Rattle.std.proofs.Common.{◌≡◌, ◌∙◌, true, false, List, ap, sym, subst}
use Rattle.std.specs.Prelude.{All}
use Rattle.mrp_tables.specs.Facts.{IsBillLine}
use Rattle.mrp_tables.specs.Items as items
use Rattle.mrp_tables.specs.Tables.{Tables}
use Rattle.mrp_tables.specs.declared.item.Item.{Item}
use Rattle.mrp_tables.specs.declared.rows.BillLine.{BillLine}
use Rattle.mrp_item.specs.Inputs.{is_master}
use Rattle.mrp_item.proofs.Untouched.{master-kept, on-false, on-not, on-true, parents-fit, part-kept, part-lost}
use Rattle.mrp_item.proofs.carrying.is_left_alone.Goals as goal

pub keep_orders-requires : goal.keep_orders-requires
keep_orders-requires c = parents-fit c.args.old.now.inputs c.args.inputs.now c.args.item c.args.parents.now c.requires.tables c.requires.parents

pub returns-then-is_master-clause-alone : goal.returns-then-is_master-clause-alone
returns-then-is_master-clause-alone c =
    let old = c.args.old.now.inputs in
    let new = c.args.inputs.now in
    let i = c.args.item in
    let tables : c.tables.result.now ≡ new.tables = c.tables.ensures.value ∙ c.shop.ensures.tables in
    let lines : All (IsBillLine new.tables.items) new.tables.bills =
    subst (λ (t : Tables). All (IsBillLine t.items) t.bills) tables (subst (λ (ls : List BillLine). All (IsBillLine c.tables.result.now.items) ls) c.bills-parts.ensures.rows c.bills-parts.ensures.within) in
    let master : is_master new i ≡ true = ap (λ (x : Item). items.is_master x.class) (sym c.entry.ensures.value) ∙ sym c.is_master.ensures ∙ c.if-is_master.true in
    let here = c.deref.ensures ∙ c.inputs.ensures.inputs in
    on-not c.is_rebooked.result _ _ _ (master-kept old new i c.requires.tables lines master) (rw here at c.is_rebooked.ensures)

pub returns-else-is_master-clause-alone : goal.returns-else-is_master-clause-alone
returns-else-is_master-clause-alone c =
    let old = c.args.old.now.inputs in
    let new = c.args.inputs.now in
    let i = c.args.item in
    let part : is_master new i ≡ false = ap (λ (x : Item). items.is_master x.class) (sym c.entry.ensures.value) ∙ sym c.is_master.ensures ∙ c.if-is_master.false in
    on-true c.keep_orders.result _ _ (part-kept old new i c.args.parents.now c.shop.ensures.parents c.requires.tables part c.requires.parents) c.keep_orders.ensures.kept

pub returns-else-is_master-clause-touched : goal.returns-else-is_master-clause-touched
returns-else-is_master-clause-touched c =
    let old = c.args.old.now.inputs in
    let new = c.args.inputs.now in
    let i = c.args.item in
    let part : is_master new i ≡ false = ap (λ (x : Item). items.is_master x.class) (sym c.entry.ensures.value) ∙ sym c.is_master.ensures ∙ c.if-is_master.false in
    on-false c.keep_orders.result _ _ (part-lost old new i c.args.parents.now part c.requires.parents) c.keep_orders.ensures.lost
