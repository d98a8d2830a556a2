use Rattle.std.proofs.Common.{◌∙◌, refl, sym}
use Rattle.mrp_advice.specs.Headers.{has_like}
use Rattle.mrp_advice.proofs.HeaderSteps.{each-fails, each-more}
use Rattle.mrp_advice.proofs.header.has_each.Goals as goal

pub returns-then-not-has_like : goal.returns-then-not-has_like
returns-then-not-has_like c = sym (each-fails (has_like c.args.row.now.first) c.args.columns.now c.loop-column.column-index _ _ c.loop-column-test.true refl (sym (sym c.if-not-has_like.true ∙ c.has_like.ensures)))

pub loop-column-preserved : goal.loop-column-preserved
loop-column-preserved c = each-more (has_like c.args.row.now.first) c.args.columns.now c.loop-column.column-index _ _ c.loop-column-test.true refl (sym (sym c.if-not-has_like.false ∙ c.has_like.ensures)) c.loop-column.invariant
