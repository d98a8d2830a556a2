use Rattle.std.proofs.Common.{◌≡◌, ℕ, List, Some, false}
use Rattle.mrp_page.specs.Reading.{HasRead, IsReading}
use Rattle.mrp_page.specs.Spot.{is_wrong}
use Rattle.mrp_page.proofs.read.note_records.Given as goal

abbrev pub invariant-loop : goal.invariant-loop
invariant-loop g l = record {
  reading : IsReading l.reader;
  so_far : (text : List ℕ) → g.R.Read.remaining l.fn.input ≡ Some text → HasRead g.R.Read.remaining text l.items l.asked l.reader l.fn.notes l.notes;
  right : is_wrong l.fn.notes.spot.place ≡ false → is_wrong l.notes.spot.place ≡ false;
}
