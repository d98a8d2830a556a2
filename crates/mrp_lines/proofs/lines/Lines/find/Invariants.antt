use Rattle.std.proofs.Common.{◌-◌, length}
use Rattle.std.specs.Io.KnownBytes.{Keeps}
use Rattle.mrp_lines.specs.Left.{ahead_of, left_of}
use Rattle.mrp_lines.specs.declared.window.TheConstants.{ROOM}
use Rattle.mrp_lines.proofs.lines.Lines.find.Given as goal

abbrev pub invariant-loop-len : goal.invariant-loop-len
invariant-loop-len g l = Keeps (left_of g.R.Read.remaining l.fn.self) (left_of g.R.Read.remaining l.self)

abbrev pub decreases-loop-len : goal.decreases-loop-len
decreases-loop-len g l = ROOM - length (ahead_of l.self)
