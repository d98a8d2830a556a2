use Rattle.std.proofs.Common.{arith, refl, sym, ◌∙◌}
use Rattle.mrp_rows.proofs.CellCuts.{length-ends, length-last, length-next}
use Rattle.mrp_rows.proofs.cutting.cell_length.Goals as goal

pub returns-then-ends_cell : goal.returns-then-ends_cell
returns-then-ends_cell c =
    let none = length-ends c.args.text.now c.loop-at.spot c.loop-at.at _ c.loop-at-test.true refl (sym c.ends_cell.ensures ∙ c.if-ends_cell.true) in
    omega (arith, none, c.loop-at.invariant)

pub loop-at-preserved : goal.loop-at-preserved
loop-at-preserved c =
    let next = length-next c.args.text.now c.loop-at.spot c.loop-at.at _ c.loop-at-test.true refl (sym c.ends_cell.ensures ∙ c.if-ends_cell.false) in
    rw c.spot_after-spot.ensures (omega (arith, next, c.loop-at.invariant))

pub returns : goal.returns
returns c =
    let none = length-last c.args.text.now c.loop-at.spot c.loop-at.at c.loop-at-test.false in
    omega (arith, none, c.loop-at.invariant)
