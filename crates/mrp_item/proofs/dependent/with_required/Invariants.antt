use Rattle.std.proofs.Common.{◌≡◌, ◌+◌, take}
use Rattle.std.specs.Prelude.{sum_by}
use Rattle.mrp_item.specs.DependentDemand.{required_in}
use Rattle.mrp_item.proofs.dependent.with_required.Given as goal

abbrev pub invariant-loop-line : goal.invariant-loop-line
invariant-loop-line l = l.sum ≡ l.fn.from + sum_by (required_in (l.before + 1)) (take l.line-index l.lines)
