use Rattle.std.proofs.Common.{arith}
use Rattle.mrp_bill.proofs.Listed.{listed-contains}
use Rattle.mrp_bill.proofs.search.first.never_rise.Goals as goal

pub has_lesser_rank-requires : goal.has_lesser_rank-requires
has_lesser_rank-requires c = λ k d h.
    omega (arith, c.requires.within _ c.loop-item.item (listed-contains c.args.parents.now c.loop-item.item c.group.result.now k d c.group.ensures h), c.requires.size)
