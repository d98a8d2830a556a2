use Rattle.std.proofs.Common.{◌≡◌}
use Rattle.mrp_risk.specs.Marks.{Grows, IsRound}
use Rattle.mrp_risk.proofs.PegListed.{AreMarkedAfter, pegs_left}
use Rattle.mrp_risk.proofs.marking.Marking.mark_needs.Given as goal

abbrev pub invariant-loop-next : goal.invariant-loop-next
invariant-loop-next l = record {
  round : IsRound l.pegs l.late l.self;
  grows : Grows l.pegs l.late l.fn.self l.self;
  passed : l.self.passed ≡ l.fn.self.passed;
  after : AreMarkedAfter l.pegs l.self.marks.items l.order l.next;
}

abbrev pub decreases-loop-next : goal.decreases-loop-next
decreases-loop-next l = pegs_left l.next
