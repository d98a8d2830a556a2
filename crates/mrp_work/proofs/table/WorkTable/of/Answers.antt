use Rattle.std.proofs.Common.{◌∙◌, List, Option, ap}
use Rattle.mrp_tables.specs.declared.rows.Operation.{Operation}
use Rattle.mrp_work.specs.Table.{added}
use Rattle.mrp_work.specs.Work.{all_work, found_of}
use Rattle.mrp_work.specs.declared.order.Work.{Work}
use Rattle.mrp_work.proofs.Added.{asked-found}
use Rattle.mrp_work.proofs.table.WorkTable.of.Goals as goal

pub returns : goal.returns
returns c = λ centre week.
    let works = all_work c.routings-routings.result.now c.args.orders.now in
    c.in_ok-add_orders.ensures centre week ∙ ap (λ (found : Option (List Work)). added found centre week works) (c.in_ok-found.ensures centre week) ∙ asked-found c.args.asked.now works centre week
    ∙ ap (λ (routings : List Operation). found_of c.args.asked.now (all_work routings c.args.orders.now) centre week) c.routings-routings.ensures.rows
