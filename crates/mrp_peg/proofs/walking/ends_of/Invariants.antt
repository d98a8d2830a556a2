use Rattle.std.proofs.Common.{◌≤◌, length}
use Rattle.mrp_peg.specs.Walk.{AreMarked}
use Rattle.mrp_peg.proofs.Served.{place_in}
use Rattle.mrp_peg.proofs.Walked.{IsWalked}
use Rattle.mrp_peg.proofs.walking.ends_of.Given as goal

abbrev pub invariant-loop-left : goal.invariant-loop-left
invariant-loop-left l = record {
  within : l.left ≤ length l.order;
  walked : IsWalked l.plan.inputs l.need (place_in l.order) l.left l.orders.keys l.causes.keys;
  marked : AreMarked l.orders.keys l.items.keys;
}

abbrev pub decreases-loop-left : goal.decreases-loop-left
decreases-loop-left l = l.left
