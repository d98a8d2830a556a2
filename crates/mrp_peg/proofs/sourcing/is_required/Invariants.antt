use Rattle.std.proofs.Common.{◌≡◌, take, false}
use Rattle.std.specs.List.{list_any}
use Rattle.mrp_peg.specs.Causes.{same_need}
use Rattle.mrp_peg.proofs.sourcing.is_required.Given as goal

abbrev pub invariant-loop-requirement : goal.invariant-loop-requirement
invariant-loop-requirement l = list_any (λ requirement. same_need requirement.need l.need) (take l.requirement-index l.needs) ≡ false
