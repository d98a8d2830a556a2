use Rattle.mrp_bill.proofs.Accepted.{earlier}
use Rattle.mrp_bill.proofs.laws.orders.Goals as goal

pub returns : goal.returns
returns c = earlier
