use Rattle.std.proofs.Common.{take}
use Rattle.mrp_open.specs.Runs.{HandsOverAll, handed_of}
use Rattle.mrp_open.proofs.batches.hand_over.Given as goal

abbrev pub invariant-loop-entry : goal.invariant-loop-entry
invariant-loop-entry g l =
    HandsOverAll (take l.entry-index l.entries) (handed_of g.T.RunTaker.told g.T.RunTaker.given l.fn.taker) (handed_of g.T.RunTaker.told g.T.RunTaker.given l.taker)
