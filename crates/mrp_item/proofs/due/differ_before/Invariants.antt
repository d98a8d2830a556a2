use Rattle.std.proofs.Common.{◌≡◌, ◌<◌, ◌≤◌, ℕ, get_or}
use Rattle.mrp_item.proofs.due.differ_before.Given as goal

abbrev pub invariant-loop-week : goal.invariant-loop-week
invariant-loop-week l = (k : ℕ) → 1 ≤ k → k < l.week → get_or l.one k 0 ≡ get_or l.other k 0
