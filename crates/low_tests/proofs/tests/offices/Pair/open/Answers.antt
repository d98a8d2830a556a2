use Rattle.mrp_turn.proofs.Callers.{new_turns}
use Rattle.low_tests.proofs.tests.offices.Pair.open.Goals as goal

pub two_desks-requires : goal.two_desks-requires
two_desks-requires g c = let made = c.in-Ok.ensures in new_turns c.in-Ok.office c.in-Ok.desks.items 2 made.count made.desks
