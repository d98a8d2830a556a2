use Rattle.std.proofs.Common.{◌≡◌, max}
use Rattle.mrp_phase.specs.Weeks.{in_week, row}
use Rattle.mrp_item.proofs.supply.higher.Given as goal

abbrev pub invariant-loop-i : goal.invariant-loop-i
invariant-loop-i l = l.greater.items ≡ row l.i (λ week. max (in_week l.one week) (in_week l.other week))
