use Rattle.std.proofs.Common.{◌≡◌, ℕ, List, Some, false}
use Rattle.mrp_lines.specs.Left.{left_of}
use Rattle.mrp_page.specs.Reading.{HasTaken}
use Rattle.mrp_page.specs.Spot.{is_wrong}
use Rattle.mrp_page.proofs.read.note_lines.Given as goal

abbrev pub invariant-loop : goal.invariant-loop
invariant-loop g l = record {
  taken : (text : List ℕ) → left_of g.R.Read.remaining l.fn.lines ≡ Some text → HasTaken text l.items l.asked (left_of g.R.Read.remaining l.lines) l.front l.fn.notes l.notes;
  right : is_wrong l.notes.spot.place ≡ false;
}
