use Rattle.std.proofs.Common.{◌-◌, ◌≤◌, All, drop, length, map, true, vec_len}
use Rattle.mrp_rows.specs.CellTexts.{IsWithin, bytes_at}
use Rattle.mrp_rows.specs.Cutting.{IsInside}
use Rattle.mrp_rows.proofs.plain_lines.find_cells.Given as goal

abbrev pub invariant-loop-end : goal.invariant-loop-end
invariant-loop-end l = record {
  within : l.start ≤ length l.text;
  places : All (IsWithin l.start) l.places.items;
  inside : IsInside l.text l.most (map (bytes_at l.text) l.places.items) (length l.places.items) true (drop l.start l.text);
}

abbrev pub decreases-loop-end : goal.decreases-loop-end
decreases-loop-end l = l.most - vec_len l.places
