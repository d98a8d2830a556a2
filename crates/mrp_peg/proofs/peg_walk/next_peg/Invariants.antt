use Rattle.std.proofs.Common.{◌≡◌, ◌+◌, length}
use Rattle.mrp_peg.specs.Left.{offered_left, pegs_between, required_left}
use Rattle.mrp_peg.proofs.peg_walk.next_peg.Given as goal

abbrev pub invariant-loop-offered : goal.invariant-loop-offered
invariant-loop-offered l = pegs_between l.item (required_left l.initial.needs) (offered_left l.initial.supplies) ≡ pegs_between l.item (required_left l.needs) (offered_left l.supplies)

abbrev pub decreases-loop-offered : goal.decreases-loop-offered
decreases-loop-offered l = length (required_left l.needs) + length (offered_left l.supplies)
