use Rattle.std.proofs.Common.{◌≡◌, length, map}
use Rattle.mrp_words.specs.Hints.{two_in_a_row}
use Rattle.mrp_words.proofs.hint.has_two_in_a_row.Given as goal

abbrev pub invariant-loop-left : goal.invariant-loop-left
invariant-loop-left g l = two_in_a_row (map g.S.AsStr.text l.fn.words) ≡ two_in_a_row (map g.S.AsStr.text l.left)

abbrev pub decreases-loop-left : goal.decreases-loop-left
decreases-loop-left g l = length l.left
