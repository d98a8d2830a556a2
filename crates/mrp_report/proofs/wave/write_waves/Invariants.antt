use Rattle.std.proofs.Common.{◌≤◌, ◌-◌, []}
use Rattle.mrp_report.specs.wave.Chunks.{between, count_of, row_of}
use Rattle.mrp_report.proofs.Progress.{IsWritten}
use Rattle.mrp_report.proofs.wave.write_waves.Given as goal

abbrev pub invariant-loop-from : goal.invariant-loop-from
invariant-loop-from g l =
    (l.from ≤ count_of l.chunks) × IsWritten g.W.Write.contents l.fn.writer l.writer l.fn.tries l.tries [] (between (row_of l.chunks) 0 l.from)

abbrev pub decreases-loop-from : goal.decreases-loop-from
decreases-loop-from g l = l.count - l.from
