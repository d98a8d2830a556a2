use Rattle.std.proofs.Common.{◌≡◌, length}
use Rattle.mrp_bill.specs.Ranking.{IsRanking, to_do}
use Rattle.mrp_bill.proofs.ranks.Ranking.give_all.Given as goal

abbrev pub invariant-loop-item : goal.invariant-loop-item
invariant-loop-item l = record {
  ranking : IsRanking l.self;
  size : length l.self.seen.items ≡ length l.fn.self.seen.items;
  same : to_do l.self ≡ to_do l.fn.self;
}
