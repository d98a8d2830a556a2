use Rattle.std.proofs.Common.{arith, refl}
use Rattle.mrp_rows.proofs.HeldCells.{none-within}
use Rattle.mrp_rows.proofs.cell_texts.CellTexts.clear.Goals as goal

pub returns : goal.returns
returns c = rw (c.clear-2.ensures.items, c.clear.ensures.items) refl

pub invariant_of-self : goal.invariant_of-self
invariant_of-self c = rw (c.clear-2.ensures.items, c.clear.ensures.items) (record { within = none-within _; start = omega arith })
