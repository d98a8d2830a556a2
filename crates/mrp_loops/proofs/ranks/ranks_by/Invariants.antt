use Rattle.mrp_loops.specs.Ranks.{IsRanking}
use Rattle.mrp_loops.proofs.ranks.ranks_by.Given as goal

abbrev pub invariant-loop-rank : goal.invariant-loop-rank
invariant-loop-rank l = IsRanking l.count l.ranking
