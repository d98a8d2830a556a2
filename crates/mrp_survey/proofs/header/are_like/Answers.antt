use Rattle.std.proofs.Common.{◌∙◌, refl, sym, true, false}
use Rattle.mrp_survey.proofs.Steps.{either-false, like-drop}
use Rattle.mrp_survey.proofs.header.are_like.Goals as goal

pub returns-then-not-is_like : goal.returns-then-not-is_like
returns-then-not-is_like c =
    let i = c.loop-column.invariant in
    either-false _ _ (sym (i.same_before ∙ like-drop c.args.row.now.first c.args.names.now c.loop-column.column _ c.cell_in.result.now _ false i.long c.loop-column-test.true c.cell_in.ensures refl (sym c.if-not-is_like.true ∙ c.is_like.ensures)))

pub loop-column-preserved : goal.loop-column-preserved
loop-column-preserved c =
    let i = c.loop-column.invariant in
    record {
      long = i.long;
      same_before = i.same_before ∙ like-drop c.args.row.now.first c.args.names.now c.loop-column.column _ c.cell_in.result.now _ true i.long c.loop-column-test.true c.cell_in.ensures refl (sym c.if-not-is_like.false ∙ c.is_like.ensures);
    }
