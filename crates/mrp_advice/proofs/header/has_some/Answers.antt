use Rattle.std.proofs.Common.{◌∙◌, refl, sym}
use Rattle.mrp_advice.specs.Headers.{has_like}
use Rattle.mrp_advice.proofs.HeaderSteps.{some-holds, some-more}
use Rattle.mrp_advice.proofs.header.has_some.Goals as goal

pub returns-then-has_like : goal.returns-then-has_like
returns-then-has_like c = sym (some-holds (has_like c.args.row.now.first) c.args.columns.now c.loop-column.column-index _ _ c.loop-column-test.true refl (sym (sym c.if-has_like.true ∙ c.has_like.ensures)))

pub loop-column-preserved : goal.loop-column-preserved
loop-column-preserved c = some-more (has_like c.args.row.now.first) c.args.columns.now c.loop-column.column-index _ _ c.loop-column-test.true refl (sym (sym c.if-has_like.false ∙ c.has_like.ensures)) c.loop-column.invariant
