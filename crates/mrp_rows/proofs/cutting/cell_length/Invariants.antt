use Rattle.std.proofs.Common.{◌≡◌, ◌+◌, drop}
use Rattle.mrp_rows.specs.Cutting.{cell_length}
use Rattle.mrp_rows.specs.declared.cutting.Spot.TheVariants as spot
use Rattle.mrp_rows.proofs.cutting.cell_length.Given as goal

abbrev pub invariant-loop-at : goal.invariant-loop-at
invariant-loop-at l = cell_length spot.Front l.text ≡ l.at + cell_length l.spot (drop l.at l.text)
