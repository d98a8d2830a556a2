use Rattle.std.proofs.Common.{◌≡◌}
use Rattle.std.specs.Prelude.{⊤}
use Rattle.mrp_loops.specs.Ranks.{IsRanking, to_rank}
use Rattle.mrp_loops.specs.Walk.{lines_left}
use Rattle.mrp_loops.proofs.Listed.{AreDone}
use Rattle.mrp_loops.proofs.ranks.Ranking.give_components.Given as goal

abbrev pub invariant-loop-next : goal.invariant-loop-next
invariant-loop-next l = record {
  ranking : IsRanking l.count l.self;
  same : to_rank l.self ≡ to_rank l.fn.self;
  done : AreDone (λ k. ⊤) l.down.lines.items l.item l.next;
}

abbrev pub decreases-loop-next : goal.decreases-loop-next
decreases-loop-next l = lines_left l.next
