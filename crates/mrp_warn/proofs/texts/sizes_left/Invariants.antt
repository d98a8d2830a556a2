use Rattle.std.proofs.Common.{◌≡◌, ◌≤◌, ◌++◌, length, map}
use Rattle.mrp_rows.specs.Columns.{width}
use Rattle.mrp_warn.specs.Texts.{size_in}
use Rattle.mrp_warn.proofs.texts.sizes_left.Given as goal

abbrev pub invariant-loop-sizes : goal.invariant-loop-sizes
invariant-loop-sizes l = record {
  wide : 6 ≤ width l.records.layout;
  so_far : l.sizes.items ++ map size_in l.records.left ≡ map size_in l.initial.records.left;
}

abbrev pub decreases-loop-sizes : goal.decreases-loop-sizes
decreases-loop-sizes l = length l.records.left
