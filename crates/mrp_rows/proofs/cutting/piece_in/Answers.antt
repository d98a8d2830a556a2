use Rattle.std.proofs.lemmas.Bool.{ne_eqb}
use Rattle.std.proofs.lemmas.List.{nil_from_length}
use Rattle.mrp_rows.proofs.CellCuts.{empty-cell, unquoted-cell}
use Rattle.mrp_rows.proofs.cutting.piece_in.Goals as goal

pub returns-in-Some-2 : goal.returns-in-Some-2
returns-in-Some-2 c = rw c.in-Some.ensures.cases.0 (unquoted-cell c.in-Some.first.now _ (ne_eqb c.in-Some.first.now 34 c.if-first-eq34.false))

pub returns-in-None : goal.returns-in-None
returns-in-None c = rw (nil_from_length _ c.in-None.ensures.cases) empty-cell
