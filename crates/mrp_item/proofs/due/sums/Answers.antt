use Rattle.mrp_item.proofs.DueSums.{zeros-at}
use Rattle.mrp_item.proofs.due.sums.Goals as goal

pub add_up-requires-clause-zeros : goal.add_up-requires-clause-zeros
add_up-requires-clause-zeros c = λ week. zeros-at 105 week
