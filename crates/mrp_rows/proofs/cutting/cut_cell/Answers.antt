use Rattle.std.proofs.Common.{arith}
use Rattle.mrp_rows.specs.declared.cutting.Spot.TheVariants as spot
use Rattle.mrp_rows.proofs.CellCuts.{length-within}
use Rattle.mrp_rows.proofs.cutting.cut_cell.Goals as goal

pub split_at-requires : goal.split_at-requires
split_at-requires c = omega (arith, length-within c.args.text.now spot.Front)
