use Rattle.std.proofs.lemmas.Slice.Eq.{slice_eq-Decides}
use Rattle.mrp_item.proofs.SameOrders.{same_order}
use Rattle.mrp_item.proofs.carrying.are_same.Goals as goal

pub returns : goal.returns
returns c = slice_eq-Decides same_order c.args.one.now c.args.other.now c.eq.result c.eq.ensures
