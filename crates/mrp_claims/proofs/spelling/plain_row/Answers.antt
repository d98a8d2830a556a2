use Rattle.std.proofs.Common.{◌∙◌, ◌++◌, ◌∷◌, [], ℕ, List, ap, arith, sym, take}
use Rattle.csv.specs.Records.{fields_of}
use Rattle.mrp_report.proofs.lemmas.page.RowCells.{body}
use Rattle.mrp_claims.proofs.PlainRows.{first-cell, next-cell, whole-row}
use Rattle.mrp_claims.proofs.spelling.plain_row.Goals as goal

pub loop-column-init : goal.loop-column-init
loop-column-init c = (
  omega arith,
  c.in_ok-extend_from_slice.ensures.items ∙ ap (λ (t : List ℕ). t ++ c.cell_of.result.now) c.in_ok-text.ensures.items ∙ c.cell_of.ensures ∙ sym (first-cell (fields_of c.args.cells.now) c.requires),
)

pub loop-column-preserved : goal.loop-column-preserved
loop-column-preserved c =
    let cells = fields_of c.args.cells.now in
    let k = c.loop-column.column in
    let begun = c.loop-column.invariant in (
      omega arith,
      c.in_ok-extend_from_slice-2.ensures.items
          ∙ ap (λ (t : List ℕ). t ++ c.cell_of-in-loop-column.result.now) (c.in_ok-push.ensures.items ∙ ap (λ (t : List ℕ). t ++ 44 ∷ []) begun.1)
          ∙ ap (λ (x : List ℕ). (body (take k cells) ++ 44 ∷ []) ++ x) c.cell_of-in-loop-column.ensures
          ∙ sym (next-cell cells k c.requires (omega (arith, begun.0)) (omega (arith, c.loop-column-test.true, c.len-column-end.ensures))),
    )

pub returns : goal.returns
returns c =
    c.in_ok-push-2.ensures.items ∙ ap (λ (t : List ℕ). t ++ 10 ∷ []) c.loop-column.invariant.1
    ∙ whole-row (fields_of c.args.cells.now) c.loop-column.column c.requires (omega (arith, c.loop-column-test.false, c.len-column-end.ensures))
