use Rattle.mrp_lots.specs.LotLaws.{orders-multiple, orders-minimum, orders-smallest}
use Rattle.mrp_lots.proofs.laws.stepped_orders.Goals as goal

pub returns-clause-multiple : goal.returns-clause-multiple
returns-clause-multiple c = orders-multiple

pub returns-clause-minimum : goal.returns-clause-minimum
returns-clause-minimum c = orders-minimum

pub returns-clause-smallest : goal.returns-clause-smallest
returns-clause-smallest c = orders-smallest
