use Rattle.std.proofs.Common.{arith}
use Rattle.mrp_warn.proofs.ToldRows.{told-each, told-only, told-row}
use Rattle.mrp_warn.proofs.laws.warnings_are_of_their_records.Goals as goal

pub returns-clause-each : goal.returns-clause-each
returns-clause-each g c = λ odd rows place row found there is. told-each odd 0 rows place place row found (omega arith) there is

pub returns-clause-only : goal.returns-clause-only
returns-clause-only g c = λ odd rows w has.
    let t = told-row odd rows w (told-only odd 0 rows w has) in
    (t.place, t.row, t.found, t.there, t.is, t.told)
