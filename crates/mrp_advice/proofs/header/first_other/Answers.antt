use Rattle.std.proofs.Common.{◌∙◌, true, false, refl, sym}
use Rattle.mrp_advice.specs.Headers.{tables}
use Rattle.mrp_advice.proofs.HeaderSteps.{other-more, other-past}
use Rattle.mrp_advice.proofs.header.first_other.Goals as goal

pub returns-then-is_of_other : goal.returns-then-is_of_other
returns-then-is_of_other c = sym (c.loop-table.invariant ∙ other-more c.args.own c.args.row.now tables c.loop-table.table-index _ _ true c.loop-table-test.true refl (sym (sym c.if-is_of_other.true ∙ c.is_of_other.ensures)))

pub loop-table-preserved : goal.loop-table-preserved
loop-table-preserved c = c.loop-table.invariant ∙ other-more c.args.own c.args.row.now tables c.loop-table.table-index _ _ false c.loop-table-test.true refl (sym (sym c.if-is_of_other.false ∙ c.is_of_other.ensures))

pub returns : goal.returns
returns c = sym (c.loop-table.invariant ∙ other-past c.args.own c.args.row.now tables c.loop-table.table-index c.loop-table-test.false)
