use Rattle.std.proofs.Common.{◌≡◌, ◌-◌, map}
use Rattle.std.specs.List.{range_with_len}
use Rattle.mrp_page.specs.Numbering.{booking_place, numbered_peg}
use Rattle.mrp_page.proofs.numbering.numbered_pegs.Given as goal

abbrev pub invariant-loop-place : goal.invariant-loop-place
invariant-loop-place l = record {
  found : l.found.items ≡ map (numbered_peg l.orders l.pegs) (range_with_len 0 l.place);
  booking : l.booking ≡ booking_place l.pegs (l.place - 1);
}
