use Rattle.std.proofs.Common.{◌≡◌, drop, map}
use Rattle.mrp_advice.specs.Listing.{listed_in, with_lines}
use Rattle.mrp_advice.specs.Loops.{loop_line}
use Rattle.mrp_advice.proofs.lines.push_loops.Given as goal

abbrev pub invariant-loop-found : goal.invariant-loop-found
invariant-loop-found l = with_lines (listed_in l.lines) (drop l.found-index (map loop_line l.loops)) ≡ with_lines (listed_in l.initial.lines) (map loop_line l.loops)
