use Rattle.std.proofs.Common.{◌≡◌, drop}
use Rattle.mrp_advice.specs.Lines.{run_lines}
use Rattle.mrp_advice.specs.Listing.{listed_in, with_lines}
use Rattle.mrp_advice.proofs.Runs.{lines_left}
use Rattle.mrp_advice.proofs.lines.push_runs.Given as goal

abbrev pub invariant-loop-next : goal.invariant-loop-next
invariant-loop-next l = with_lines (listed_in l.lines) (lines_left l.survey l.first l.last (drop l.next-index l.others)) ≡ with_lines (listed_in l.initial.lines) (run_lines l.survey l.faults)
