use Rattle.std.proofs.Common.{◌≡◌, ◌∙◌, ap, length}
use Rattle.mrp_tables.specs.Tables.{Tables}
use Rattle.mrp_bill.specs.Bill.{parents_of}
use Rattle.mrp_item.specs.Inputs.{Inputs, count}
use Rattle.mrp_item.proofs.Parents.{parents-listed}
use Rattle.mrp_item.proofs.planning.plan_item.Goals as goal

pub plan_among-requires-clause-parents : goal.plan_among-requires-clause-parents
plan_among-requires-clause-parents c =
    let s = c.args.inputs.now.value in
    let i = c.args.item in
    let are : c.parents.result.now ≡ parents_of s.tables.bills (count s) i =
    c.parents.ensures ∙ ap (λ (t : Tables). parents_of t.bills (length t.items) i) (c.shop.ensures.tables ∙ ap (λ (x : Inputs). x.tables) c.deref.ensures) in
    parents-listed s i c.parents.result.now c.args.parents.now are c.requires.parents
