use Rattle.std.proofs.Common.{◌≡◌, length}
use Rattle.mrp_bill.specs.Ranking.{IsRanking}
use Rattle.mrp_bill.proofs.ranks.ranks_of.Given as goal

abbrev pub invariant-loop-rank : goal.invariant-loop-rank
invariant-loop-rank l = record {
  ranking : IsRanking l.ranking;
  size : length l.ranking.seen.items ≡ length l.children;
}
