use Rattle.mrp_page.proofs.OutRows.{left-over, left-short, outs-once, outs-rise, shown-are}
use Rattle.mrp_page.proofs.Safety.{cell-is}
use Rattle.mrp_page.proofs.laws.items_run_out_in_order.Goals as goal

pub returns-clause-once : goal.returns-clause-once
returns-clause-once c = outs-once

pub returns-clause-order : goal.returns-clause-order
returns-clause-order c = outs-rise

pub returns-clause-over : goal.returns-clause-over
returns-clause-over c = left-over

pub returns-clause-short : goal.returns-clause-short
returns-clause-short c = left-short

pub returns-clause-safety : goal.returns-clause-safety
returns-clause-safety c = cell-is

pub returns-clause-shown : goal.returns-clause-shown
returns-clause-shown c = shown-are
