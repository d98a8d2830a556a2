use Rattle.std.proofs.Common.{◌≡◌, ◌≤◌, ◌+◌, ◌++◌, length}
use Rattle.mrp_survey.specs.Lines.{lines_from, record_lines}
use Rattle.mrp_survey.proofs.lines.record_lines.Given as goal

abbrev pub invariant-loop-rest : goal.invariant-loop-rest
invariant-loop-rest l = record {
  lines : record_lines l.fn.line l.fn.text ≡ l.lines.items ++ lines_from l.reading l.rest;
  small : l.reading.line + length l.rest ≤ l.fn.line + length l.fn.text;
}

abbrev pub decreases-loop-rest : goal.decreases-loop-rest
decreases-loop-rest l = length l.rest
