use Rattle.std.proofs.Common.{◌≡◌, drop}
use Rattle.mrp_survey.proofs.bill_lines.pass_over.Given as goal

abbrev pub invariant-loop-passed : goal.invariant-loop-passed
invariant-loop-passed l = l.records ≡ drop l.passed l.fn.records
