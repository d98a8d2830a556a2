use Rattle.std.proofs.Common.{◌≡◌, ◌≤◌, ◌+◌, length}
use Rattle.mrp_survey.specs.Lines.{at_start, line_behind}
use Rattle.mrp_survey.proofs.source.line_behind.Given as goal

abbrev pub invariant-loop-rest : goal.invariant-loop-rest
invariant-loop-rest l = record {
  line : line_behind (at_start 1) l.fn.bytes ≡ line_behind l.reading l.rest;
  small : l.reading.line + length l.rest ≤ 1 + length l.fn.bytes;
}

abbrev pub decreases-loop-rest : goal.decreases-loop-rest
decreases-loop-rest l = length l.rest
