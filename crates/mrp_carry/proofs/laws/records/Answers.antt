use Rattle.std.proofs.Common.{◌∙◌, List, [], ◌∷◌, ◌++◌, append-nil, ap, sym}
use Rattle.mrp_rows.specs.Records.{records_of}
use Rattle.mrp_carry.specs.Rows.{Row, columns_of}
use Rattle.mrp_carry.proofs.ScriptTexts.{nothing-follows, rows-wide, text-records}
use Rattle.mrp_carry.proofs.laws.records.Goals as goal

pub returns : goal.returns
returns c = λ table tables start bookings text (rows, are, is).
    let has = text-records c.records_are_csv.ensures.all table rows text [] (rows-wide table tables start bookings rows are) is in
    let none = nothing-follows has.tail has.left in
    let whole = ap (λ (tail : List Row). columns_of table ∷ (rows ++ tail)) none ∙ ap (λ (x : List Row). columns_of table ∷ x) (append-nil rows) in
    (rows, ap records_of (sym (append-nil text)) ∙ has.records ∙ whole, are)
