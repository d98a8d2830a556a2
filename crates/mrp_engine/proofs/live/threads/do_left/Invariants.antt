use Rattle.std.proofs.Common.{◌≤◌, ◌+◌, length, vec_capacity}
use Rattle.mrp_engine.specs.live.Begun.{GivesWhat}
use Rattle.mrp_engine.proofs.lemmas.live.OneByOne.{AreDoneInTurn}
use Rattle.mrp_engine.proofs.live.threads.do_left.Given as goal

abbrev pub invariant-loop-end : goal.invariant-loop-end
invariant-loop-end g l =
    AreDoneInTurn (GivesWhat (goal.F-post g)) l.fn.ended.items l.end-iterator.rest.items l.all.items
    × (length l.end-iterator.rest.items + length l.all.items ≤ vec_capacity l.all)
