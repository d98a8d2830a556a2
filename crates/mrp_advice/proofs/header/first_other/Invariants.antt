use Rattle.std.proofs.Common.{◌≡◌, drop}
use Rattle.mrp_advice.specs.Headers.{first_other, tables}
use Rattle.mrp_advice.proofs.header.first_other.Given as goal

abbrev pub invariant-loop-table : goal.invariant-loop-table
invariant-loop-table l = first_other l.own l.row tables ≡ first_other l.own l.row (drop l.table-index tables)
