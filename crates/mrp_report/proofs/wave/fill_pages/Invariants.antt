use Rattle.std.proofs.Common.{All, take}
use Rattle.mrp_report.specs.wave.Chunks.{IsMade}
use Rattle.mrp_report.proofs.wave.fill_pages.Given as goal

abbrev pub invariant-loop-slot : goal.invariant-loop-slot
invariant-loop-slot l = All (IsMade l.chunks) (take l.slot-index l.slots)
