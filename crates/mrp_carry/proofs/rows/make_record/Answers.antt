use Rattle.std.proofs.Common.{◌≡◌, ◌∙◌, ◌∷◌, [], ◌++◌, ap}
use Rattle.std.specs.Prelude.{codes, decimal}
use Rattle.csv.specs.Records.{fields_of}
use Rattle.mrp_carry.specs.Rows.{Row, line_cells}
use Rattle.std.proofs.lemmas.Result.{on_ok_weaker}
use Rattle.mrp_carry.proofs.rows.make_record.Goals as goal

pub returns : goal.returns
returns c =
    let b = c.args.booking.now in
    let (day, first, line) = c.in_ok-push_line.ensures.cells in
    let desk : fields_of c.push_number.new.cells ≡ decimal b.desk ∷ [] = c.in_ok-push_number.ensures.cells ∙ ap (λ (x : Row). x ++ decimal b.desk ∷ []) c.clear.ensures.fields in
    let word : fields_of c.push_cell.new.cells ≡ decimal b.desk ∷ codes "book" ∷ [] = c.in_ok-push_cell.ensures.cells ∙ ap (λ (x : Row). x ++ codes "book" ∷ []) desk in
    let cells = line ∙ ap (λ (x : Row). x ++ line_cells c.args.shop.now.tables b.line day) word in
    on_ok_weaker c.push_number-2.result (λ last. (day, first, last ∙ ap (λ (x : Row). x ++ [] ∷ []) cells)) c.push_number-2.ensures.cells
