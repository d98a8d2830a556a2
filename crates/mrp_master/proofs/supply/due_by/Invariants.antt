use Rattle.std.proofs.Common.{◌≡◌, take}
use Rattle.mrp_master.specs.Supply.{due_by}
use Rattle.mrp_master.proofs.supply.due_by.Given as goal

abbrev pub invariant-loop-line : goal.invariant-loop-line
invariant-loop-line l = l.due ≡ due_by l.item l.week (take l.line-index l.lines)
