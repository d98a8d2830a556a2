use Rattle.std.proofs.Common.{◌≡◌, take}
use Rattle.mrp_phase.specs.Weeks.{row}
use Rattle.mrp_item.specs.Dues.{due_sum}
use Rattle.mrp_item.proofs.due.dated.Given as goal

abbrev pub invariant-loop-next : goal.invariant-loop-next
invariant-loop-next l = l.due ≡ row l.weeks (due_sum (take l.next-index l.dues))
