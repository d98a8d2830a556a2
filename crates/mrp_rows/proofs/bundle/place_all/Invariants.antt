use Rattle.std.proofs.Common.{◌≡◌, ◌≤◌, length}
use Rattle.mrp_rows.specs.Bundle.{sections_in, put_all, no_texts}
use Rattle.mrp_rows.specs.Placing.{texts_of, taken, IsAtSection}
use Rattle.mrp_rows.proofs.bundle.place_all.Given as goal

abbrev pub invariant-loop-rest : goal.invariant-loop-rest
invariant-loop-rest l = record {
  left : put_all no_texts 0 (sections_in l.fn.sections).1 ≡ put_all (texts_of l.texts) l.count (sections_in l.rest).1;
  front : IsAtSection l.rest;
  count : l.count ≡ taken l.texts;
  within : taken l.texts ≤ 9;
}

abbrev pub decreases-loop-rest : goal.decreases-loop-rest
decreases-loop-rest l = length l.rest
