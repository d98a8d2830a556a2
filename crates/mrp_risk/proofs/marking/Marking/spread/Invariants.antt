use Rattle.std.proofs.Common.{◌-◌, length}
use Rattle.mrp_risk.specs.Marks.{Grows, IsRound}
use Rattle.mrp_risk.proofs.marking.Marking.spread.Given as goal

abbrev pub invariant-loop-self : goal.invariant-loop-self
invariant-loop-self l = record {
  round : IsRound l.pegs l.late l.self;
  grows : Grows l.pegs l.late l.fn.self l.self;
}

abbrev pub decreases-loop-self : goal.decreases-loop-self
decreases-loop-self l = length l.fn.self.marks.items - l.self.passed
