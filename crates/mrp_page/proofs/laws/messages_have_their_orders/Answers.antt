use Rattle.mrp_page.proofs.Placed.{found, parent-placed, placed}
use Rattle.mrp_page.proofs.TodoKinds.{is-order-is, open-is, order-is, order-of-is, start-is, week-is, receipt-is, received-is}
use Rattle.mrp_page.proofs.laws.messages_have_their_orders.Goals as goal

pub returns-clause-order : goal.returns-clause-order
returns-clause-order c = order-is

pub returns-clause-of_message : goal.returns-clause-of_message
returns-clause-of_message c = order-of-is

pub returns-clause-placed : goal.returns-clause-placed
returns-clause-placed c = placed

pub returns-clause-parent : goal.returns-clause-parent
returns-clause-parent c = parent-placed

pub returns-clause-found : goal.returns-clause-found
returns-clause-found c = found

pub returns-clause-same : goal.returns-clause-same
returns-clause-same c = is-order-is

pub returns-clause-pieces : goal.returns-clause-pieces
returns-clause-pieces c = open-is

pub returns-clause-received : goal.returns-clause-received
returns-clause-received c = received-is

pub returns-clause-receipt : goal.returns-clause-receipt
returns-clause-receipt c = receipt-is

pub returns-clause-start : goal.returns-clause-start
returns-clause-start c = start-is

pub returns-clause-week : goal.returns-clause-week
returns-clause-week c = week-is
