use Rattle.std.proofs.Common.{◌≡◌, ◌++◌, ◌-◌, ◌<◌, map}
use Rattle.std.specs.List.{range_with_len}
use Rattle.mrp_survey.specs.Survey.{missing}
use Rattle.mrp_survey.proofs.tables.tell_missing.Given as goal

abbrev pub invariant-loop-number : goal.invariant-loop-number
invariant-loop-number l = record {
  told : l.findings.items ≡ l.fn.findings.items ++ map (missing l.form l.file) (range_with_len l.count (l.number - l.count));
  none : l.most < l.number → l.number ≡ l.count;
}
