use Rattle.std.proofs.Common.{[]}
use Rattle.mrp_report.specs.wave.Chunks.{rows_from}
use Rattle.mrp_report.proofs.Progress.{IsWritten}
use Rattle.mrp_report.proofs.wave.write_wave.Given as goal

abbrev pub invariant-loop-k : goal.invariant-loop-k
invariant-loop-k g l = IsWritten g.W.Write.contents l.fn.writer l.writer l.fn.tries l.tries [] (rows_from l.chunks l.wave.from l.k)
