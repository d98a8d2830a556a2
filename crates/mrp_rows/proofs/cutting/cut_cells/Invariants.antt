use Rattle.std.proofs.Common.{◌≡◌, ◌+◌, ◌≤◌, [], length}
use Rattle.mrp_rows.specs.Cutting.{IsInside}
use Rattle.mrp_rows.proofs.cutting.cut_cells.Given as goal

abbrev pub invariant-loop-behind : goal.invariant-loop-behind
invariant-loop-behind l = record {
  inside : IsInside l.text l.most l.cells.cells l.count l.are_others_empty l.rest;
  begun : l.cells.begun ≡ [];
  within : l.count + length l.rest ≤ length l.text;
}

abbrev pub decreases-loop-behind : goal.decreases-loop-behind
decreases-loop-behind l = length l.rest
