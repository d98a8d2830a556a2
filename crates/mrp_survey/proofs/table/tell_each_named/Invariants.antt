use Rattle.std.proofs.Common.{◌≡◌, ◌+◌, ◌++◌, ◌-◌, [], false, length}
use Rattle.mrp_tables.specs.Reading.{is_past}
use Rattle.mrp_survey.specs.Headers.{limit_of}
use Rattle.mrp_survey.specs.Tables.{names_from, told_from}
use Rattle.mrp_survey.proofs.table.tell_each_named.Given as goal

abbrev pub invariant-loop-number : goal.invariant-loop-number
invariant-loop-number l = record {
  told :
      l.fn.findings.items ++ told_from l.form l.beside l.sheet [] 1 l.fn.records
      ≡ l.findings.items ++ told_from l.form l.beside l.sheet l.seen l.number l.records;
  names : names_from l.form l.sheet [] 1 l.fn.records ≡ names_from l.form l.sheet l.names l.number l.records;
  count : length l.fn.records + 1 ≡ l.number + length l.records;
  within : is_past (limit_of l.form) (l.number - 1) ≡ false;
}
