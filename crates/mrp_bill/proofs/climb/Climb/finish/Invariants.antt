use Rattle.mrp_bill.specs.Climb.{IsClimb, KeepsMet, work}
use Rattle.mrp_bill.proofs.climb.Climb.finish.Given as goal

abbrev pub invariant-loop-item : goal.invariant-loop-item
invariant-loop-item l = record {
  climb : IsClimb l.parents l.self;
  met : KeepsMet l.fn.self l.self;
}

abbrev pub decreases-loop-item : goal.decreases-loop-item
decreases-loop-item l = work l.self
