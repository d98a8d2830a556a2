use Rattle.std.proofs.Common.{arith, refl}
use Rattle.mrp_rows.proofs.HeldCells.{none-within}
use Rattle.mrp_rows.proofs.cell_texts.CellTexts.new.Goals as goal

pub returns : goal.returns
returns c = rw (c.new-2.ensures.items, c.new.ensures.items) refl

pub invariant_of-result : goal.invariant_of-result
invariant_of-result c = rw (c.new-2.ensures.items, c.new.ensures.items) (record { within = none-within _; start = omega arith })
