use Rattle.std.proofs.Common.{◌≡◌, true, take}
use Rattle.std.specs.List.{list_all}
use Rattle.mrp_item.specs.Plan.{is_planned, outcome_of}
use Rattle.mrp_item.proofs.planning.are_planned.Given as goal

abbrev pub invariant-loop-parent : goal.invariant-loop-parent
invariant-loop-parent g l = list_all (λ p. is_planned (outcome_of l.inputs p)) (take l.parent-index l.above) ≡ true
