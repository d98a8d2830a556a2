use Rattle.std.proofs.Common.{◌∙◌, ap, ◌∷◌}
use Rattle.csv.specs.Records.{fields_of}
use Rattle.mrp_report.specs.page.Rows.{row}
use Rattle.mrp_claims.proofs.Rows.{first-cells, row-taken, row-within, same-there}
use Rattle.mrp_claims.proofs.record.split_record.Goals as goal

pub returns-in-Some-2 : goal.returns-in-Some-2
returns-in-Some-2 c =
    row-taken c.args.text.now (fields_of c.in-Some-2.cells) c.spelled-in-Some-2.result c.spelled-in-Some-2.ensures
    (λ one two more rest few plain is.
    let some = first-cells c.args.text.now c.split_at.result.0.now c.min.result c.in_ok-cells.field-0 c.split_at.ensures.front c.in_ok-cells.ensures one two more rest
    (row-within c.args.text.now (row (one ∷ two ∷ more)) rest c.min.result 512 c.min.ensures few is) plain is in
    ap fields_of (same-there c.in-Some-2.cells some.0 c.in_ok-cells.field-0 c.in-Some-2.is some.1) ∙ some.2)

pub returns-in-None : goal.returns-in-None
returns-in-None c = λ one two more rest few plain is.
    let some = first-cells c.args.text.now c.split_at.result.0.now c.min.result c.in_ok-cells.field-0 c.split_at.ensures.front c.in_ok-cells.ensures one two more rest
    (row-within c.args.text.now (row (one ∷ two ∷ more)) rest c.min.result 512 c.min.ensures few is) plain is in
    absurd (cc (c.in-None.is, some.1))
