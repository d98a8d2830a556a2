use Rattle.std.proofs.Common.{◌≤◌, ◌+◌, length, vec_capacity}
use Rattle.mrp_engine.specs.live.Begun.{EndsAs}
use Rattle.mrp_engine.proofs.lemmas.live.OneByOne.{AreDoneInTurn}
use Rattle.mrp_engine.proofs.live.threads.join_all.Given as goal

abbrev pub invariant-loop-work : goal.invariant-loop-work
invariant-loop-work g l =
    AreDoneInTurn EndsAs l.fn.begun.items l.work-iterator.rest.items l.ended.items
    × (length l.work-iterator.rest.items + length l.ended.items ≤ vec_capacity l.ended)
