use Rattle.mrp_work.proofs.Sums.{time-of-orders}
use Rattle.mrp_work.proofs.laws.work_is_of_the_orders.Goals as goal

pub returns : goal.returns
returns c = λ routings orders centre week. time-of-orders centre week routings orders
