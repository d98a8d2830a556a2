use Rattle.std.proofs.Common.{◌≡◌, List, ap}
use Rattle.std.proofs.lemmas.Slice.Eq.{slice_eq-Decides}
use Rattle.mrp_item.specs.declared.due.Due.{Due}
use Rattle.mrp_item.specs.Dues.{due_sum}
use Rattle.mrp_item.proofs.SameOrders.{same_due}
use Rattle.mrp_item.proofs.due.differ_by_week.Goals as goal

pub returns-then-eq : goal.returns-then-eq
returns-then-eq c =
    let same : c.args.one.now ≡ c.args.other.now = (slice_eq-Decides same_due c.args.one.now c.args.other.now c.eq.result c.eq.ensures).0 c.if-eq.true in
    λ week within. ap (λ (dues : List Due). due_sum dues week) same
