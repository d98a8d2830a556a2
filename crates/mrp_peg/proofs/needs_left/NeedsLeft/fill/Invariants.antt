use Rattle.std.proofs.Common.{◌≡◌, ◌-◌, Some}
use Rattle.mrp_peg.specs.Left.{required_left}
use Rattle.mrp_peg.proofs.needs_left.NeedsLeft.fill.Given as goal

abbrev pub invariant-loop-self : goal.invariant-loop-self
invariant-loop-self l = record {
  left : required_left l.self ≡ required_left l.initial.self;
  part : l.self.part ≡ Some l.part;
}

abbrev pub decreases-loop-self : goal.decreases-loop-self
decreases-loop-self l = l.weeks - l.self.week
