use Rattle.std.proofs.Common.{◌≡◌, ◌++◌}
use Rattle.mrp_report.specs.wave.Chunks.{between, count_of, row_of}
use Rattle.mrp_report.proofs.Progress.{IsWritten}
use Rattle.mrp_report.proofs.wave.in_turn.write_in_turn.Given as goal

abbrev pub invariant-loop-place : goal.invariant-loop-place
invariant-loop-place g l =
    (l.place-end ≡ count_of l.chunks)
    × IsWritten g.W.Write.contents l.fn.writer l.writer l.fn.tries l.tries l.page (l.fn.page ++ between (row_of l.chunks) 0 l.place)
