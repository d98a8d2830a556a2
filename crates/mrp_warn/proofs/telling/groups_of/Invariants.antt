use Rattle.std.proofs.Common.{take}
use Rattle.std.specs.List.{AllZip}
use Rattle.mrp_warn.specs.Tells.{IsGroup}
use Rattle.mrp_warn.proofs.telling.groups_of.Given as goal

abbrev pub invariant-loop-kind : goal.invariant-loop-kind
invariant-loop-kind l = AllZip (IsGroup l.inspection) (take l.kind-index l.kinds) l.groups.items
