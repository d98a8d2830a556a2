use Rattle.std.proofs.Common.{◌≡◌, ◌∙◌, ◌∷◌, [], ◌++◌, ap}
use Rattle.std.specs.Prelude.{decimal}
use Rattle.csv.specs.Records.{fields_of}
use Rattle.mrp_report.specs.section.Cells.{number_cell}
use Rattle.mrp_carry.specs.Rows.{Row, line_cells}
use Rattle.std.proofs.lemmas.Result.{on_ok_weaker}
use Rattle.mrp_carry.proofs.rows.make_row.Goals as goal

pub returns : goal.returns
returns c =
    let b = c.args.booking.now in
    let number : fields_of c.push_number.new.cells ≡ decimal b.number ∷ [] = c.in_ok-push_number.ensures.cells ∙ ap (λ (x : Row). x ++ decimal b.number ∷ []) c.clear.ensures.fields in
    let new : fields_of c.push_number-2.new.cells ≡ decimal b.number ∷ number_cell c.args.new ∷ [] = c.in_ok-push_number-2.ensures.cells ∙ ap (λ (x : Row). x ++ number_cell c.args.new ∷ []) number in
    let desk : fields_of c.push_number-3.new.cells ≡ decimal b.number ∷ number_cell c.args.new ∷ decimal b.desk ∷ [] = c.in_ok-push_number-3.ensures.cells ∙ ap (λ (x : Row). x ++ decimal b.desk ∷ []) new in
    on_ok_weaker c.push_line.result (λ (day, first, line). (day, first, line ∙ ap (λ (x : Row). x ++ line_cells c.args.shop.now.tables b.line day) desk)) c.push_line.ensures.cells
