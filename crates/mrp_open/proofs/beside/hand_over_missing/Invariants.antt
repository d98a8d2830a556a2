use Rattle.std.proofs.Common.{take}
use Rattle.mrp_open.specs.Runs.{HandsAllMissing, handed_of}
use Rattle.mrp_open.proofs.beside.hand_over_missing.Given as goal

abbrev pub invariant-loop-entry : goal.invariant-loop-entry
invariant-loop-entry g l =
    HandsAllMissing (g.F.FileStore.known l.files) l.folder (take l.entry-index l.entries) (handed_of g.T.RunTaker.told g.T.RunTaker.given l.fn.taker) (handed_of g.T.RunTaker.told g.T.RunTaker.given l.taker)
