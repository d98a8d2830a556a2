use Rattle.std.proofs.Common.{◌≡◌, ◌++◌, drop}
use Rattle.mrp_rows.specs.Cutting.{cell_in}
use Rattle.mrp_rows.specs.declared.cutting.Spot.TheVariants as spot
use Rattle.mrp_rows.proofs.cutting.add_bytes.Given as goal

abbrev pub invariant-loop-byte : goal.invariant-loop-byte
invariant-loop-byte l = record {
  cells : l.cells.cells ≡ l.fn.cells.cells;
  begun : l.fn.cells.begun ++ cell_in spot.Front l.spelled ≡ l.cells.begun ++ cell_in l.spot (drop l.byte-index l.spelled);
}
