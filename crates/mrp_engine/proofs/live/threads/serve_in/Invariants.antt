use Rattle.std.proofs.Common.{◌≤◌, ◌+◌, length, vec_capacity}
use Rattle.mrp_engine.proofs.lemmas.live.OneByOne.{AreDoneInTurn}
use Rattle.mrp_engine.proofs.lemmas.live.Duties.{IsBegun, IsWorkOf}
use Rattle.mrp_engine.proofs.live.threads.serve_in.Given as goal

abbrev pub invariant-loop-ready : goal.invariant-loop-ready
invariant-loop-ready g l =
    AreDoneInTurn (IsBegun l.office l.lists (IsWorkOf l.office l.lists l.rows l.workers)) l.fn.desks.items l.ready-iterator.rest.items l.begun.items
    × (length l.ready-iterator.rest.items + length l.begun.items ≤ vec_capacity l.begun)
