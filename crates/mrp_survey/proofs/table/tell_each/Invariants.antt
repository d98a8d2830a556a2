use Rattle.std.proofs.Common.{◌≡◌, ◌++◌, []}
use Rattle.mrp_survey.specs.Tables.{told_from}
use Rattle.mrp_survey.proofs.table.tell_each.Given as goal

abbrev pub invariant-loop-number : goal.invariant-loop-number
invariant-loop-number l =
    l.fn.findings.items ++ told_from l.form l.beside l.sheet [] 1 l.fn.records
    ≡ l.findings.items ++ told_from l.form l.beside l.sheet l.seen l.number l.records
