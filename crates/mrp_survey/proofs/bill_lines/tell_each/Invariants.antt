use Rattle.std.proofs.Common.{◌≡◌, ◌-◌, ◌++◌, drop}
use Rattle.mrp_survey.specs.BillParts.{bills_told, lines_left}
use Rattle.mrp_survey.proofs.bill_lines.tell_each.Given as goal

abbrev pub invariant-loop-number : goal.invariant-loop-number
invariant-loop-number l = record {
  told : l.fn.findings.items ++ bills_told l.form l.beside l.sheet l.first l.fn.records ≡ l.findings.items ++ bills_told l.form l.beside l.sheet l.number l.records;
  lines : lines_left l.form l.beside.items l.sheet l.first l.fn.records ≡ l.lines.items ++ lines_left l.form l.beside.items l.sheet l.number l.records;
  left : l.records ≡ drop (l.number - l.first) l.fn.records;
}
