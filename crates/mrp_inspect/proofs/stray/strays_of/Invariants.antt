use Rattle.std.proofs.Common.{◌≡◌, ◌++◌, drop}
use Rattle.mrp_inspect.specs.Strays.{strays_from}
use Rattle.mrp_inspect.proofs.stray.strays_of.Given as goal

abbrev pub invariant-loop-place : goal.invariant-loop-place
invariant-loop-place l = strays_from l.pieces 0 l.pieces ≡ l.strays.items ++ strays_from l.pieces l.place (drop l.place l.pieces)
