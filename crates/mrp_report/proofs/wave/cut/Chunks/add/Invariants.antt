use Rattle.std.proofs.Common.{◌≡◌, ◌++◌}
use Rattle.mrp_report.specs.wave.Chunks.{between, end_of, row_of}
use Rattle.mrp_report.proofs.wave.cut.Chunks.add.Given as goal

abbrev pub invariant-loop-place : goal.invariant-loop-place
invariant-loop-place l = (l.place-end ≡ end_of l.self l.from 1) × (l.page ≡ l.fn.page ++ between (row_of l.self) l.from l.place)
