use Rattle.std.proofs.Common.{◌≡◌, ◌≤◌}
use Rattle.std.specs.Prelude.{count_by}
use Rattle.std.specs.List.{range_with_len}
use Rattle.mrp_page.specs.Fits.{begins_at}
use Rattle.mrp_page.proofs.fits.numbers_of.Given as goal

abbrev pub invariant-loop-place : goal.invariant-loop-place
invariant-loop-place l = record {
  within : l.count ≤ l.place;
  counted : l.count ≡ count_by (begins_at l.pegs l.kind l.word l.number) (range_with_len 0 l.place);
}
