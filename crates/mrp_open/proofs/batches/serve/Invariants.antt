use Rattle.std.proofs.Common.{[]}
use Rattle.mrp_open.specs.Runs.{handed_of}
use Rattle.mrp_open.specs.Served.{Advances, source_of, stand_of}
use Rattle.mrp_open.proofs.batches.serve.Given as goal

abbrev pub invariant-loop : goal.invariant-loop
invariant-loop g l =
    Advances [] (source_of g.R.Read.remaining l.fn.input) l.intake.begun (source_of g.R.Read.remaining l.input)
    (stand_of g.S.Store.held g.S.Store.failures g.W.Write.contents l.fn.desk l.fn.journal l.fn.output) (stand_of g.S.Store.held g.S.Store.failures g.W.Write.contents l.desk l.journal l.output)
    (handed_of g.T.RunTaker.told g.T.RunTaker.given l.fn.taker) (handed_of g.T.RunTaker.told g.T.RunTaker.given l.taker)
