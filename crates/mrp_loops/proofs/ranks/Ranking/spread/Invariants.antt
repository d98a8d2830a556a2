use Rattle.mrp_loops.specs.Ranks.{IsRanking, to_rank}
use Rattle.mrp_loops.proofs.ranks.Ranking.spread.Given as goal

abbrev pub invariant-loop-item : goal.invariant-loop-item
invariant-loop-item l = IsRanking l.count l.self

abbrev pub decreases-loop-item : goal.decreases-loop-item
decreases-loop-item l = to_rank l.self
