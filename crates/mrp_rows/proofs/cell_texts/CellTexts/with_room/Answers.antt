use Rattle.std.proofs.Common.{arith, refl}
use Rattle.mrp_rows.proofs.HeldCells.{none-within}
use Rattle.mrp_rows.proofs.cell_texts.CellTexts.with_room.Goals as goal

pub returns : goal.returns
returns c = rw (c.in_ok-places.ensures.items, c.in_ok-bytes.ensures.items) refl

pub invariant_of-result : goal.invariant_of-result
invariant_of-result c = rw (c.in_ok-places.ensures.items, c.in_ok-bytes.ensures.items) (record { within = none-within _; start = omega arith })
