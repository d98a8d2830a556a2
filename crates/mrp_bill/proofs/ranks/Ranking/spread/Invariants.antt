use Rattle.std.proofs.Common.{◌≡◌, length}
use Rattle.mrp_bill.specs.Ranking.{IsRanking, to_do}
use Rattle.mrp_bill.proofs.ranks.Ranking.spread.Given as goal

abbrev pub invariant-loop-item : goal.invariant-loop-item
invariant-loop-item l = record {
  ranking : IsRanking l.self;
  size : length l.self.seen.items ≡ length l.fn.self.seen.items;
}

abbrev pub decreases-loop-item : goal.decreases-loop-item
decreases-loop-item l = to_do l.self
