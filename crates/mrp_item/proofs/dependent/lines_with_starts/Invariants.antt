use Rattle.std.proofs.Common.{◌≡◌, take, map}
use Rattle.mrp_item.proofs.DependentDemand.{starts_at}
use Rattle.mrp_item.proofs.dependent.lines_with_starts.Given as goal

abbrev pub invariant-loop-place : goal.invariant-loop-place
invariant-loop-place g l = l.lines.items ≡ map (starts_at l.inputs l.bills) (take l.place-index l.places)
