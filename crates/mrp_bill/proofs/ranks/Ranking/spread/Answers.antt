use Rattle.std.proofs.Common.{◌≡◌, length, arith}
use Rattle.mrp_bill.specs.Grouped.{listed}
use Rattle.mrp_bill.proofs.Listed.{listed-contains, last-within}
use Rattle.mrp_bill.proofs.ranks.Ranking.spread.Goals as goal

pub give_all-requires-clause-within : goal.give_all-requires-clause-within
give_all-requires-clause-within c = λ k d h.
    let item = c.in-Some.item in
    let small = last-within c.loop-item.self.stack.items _ item (length c.loop-item.self.seen.items) c.in-Some.ensures.items c.loop-item.invariant.ranking.within in
    let same : c.group.result.now ≡ listed c.args.children.now item = c.group.ensures in
    omega (arith, c.requires.within _ item (listed-contains c.args.children.now item c.group.result.now k d same h), c.loop-item.invariant.size, c.requires.size)
