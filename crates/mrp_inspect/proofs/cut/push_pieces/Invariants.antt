use Rattle.std.proofs.Common.{◌≡◌, ◌≤◌, ◌+◌, ◌++◌, ◌^◌, length}
use Rattle.mrp_rows.specs.Bundle.{sections_in}
use Rattle.mrp_rows.specs.Placing.{IsAtSection}
use Rattle.mrp_inspect.specs.Pieces.{pieces_behind}
use Rattle.mrp_inspect.proofs.cut.push_pieces.Given as goal

abbrev pub invariant-loop-rest : goal.invariant-loop-rest
invariant-loop-rest l = record {
  pieces : l.initial.pieces.items ++ pieces_behind l.fn.file l.fn.front (sections_in l.fn.sections).1 ≡ l.pieces.items ++ pieces_behind l.fn.file l.here (sections_in l.rest).1;
  front : IsAtSection l.rest;
  small : l.here.line + length l.rest ≤ 2 ^ 63;
}

abbrev pub decreases-loop-rest : goal.decreases-loop-rest
decreases-loop-rest l = length l.rest
