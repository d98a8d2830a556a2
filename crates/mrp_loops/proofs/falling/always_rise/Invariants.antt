use Rattle.std.proofs.Common.{◌<◌, ℕ}
use Rattle.std.specs.Prelude.{slice_index}
use Rattle.mrp_loops.specs.Needs.{line_at}
use Rattle.mrp_loops.proofs.falling.always_rise.Given as goal

abbrev pub invariant-loop-line : goal.invariant-loop-line
invariant-loop-line l = (k : ℕ) → k < l.line-index → slice_index l.places (line_at l.lines k).parent < slice_index l.places (line_at l.lines k).component
