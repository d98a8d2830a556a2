use Rattle.std.proofs.Common.{◌≡◌, drop}
use Rattle.mrp_rows.specs.Cutting.{cell_in}
use Rattle.mrp_rows.specs.Shown.{is_empty}
use Rattle.mrp_rows.specs.declared.cutting.Spot.TheVariants as spot
use Rattle.mrp_rows.proofs.cutting.is_blank.Given as goal

abbrev pub invariant-loop-byte : goal.invariant-loop-byte
invariant-loop-byte l = is_empty (cell_in spot.Front l.spelled) ≡ is_empty (cell_in l.spot (drop l.byte-index l.spelled))
