use Rattle.std.proofs.Common.{◌≡◌, drop}
use Rattle.std.specs.List.{find}
use Rattle.mrp_page.specs.Refused.{is_booking}
use Rattle.mrp_page.proofs.refused.booking_or.Given as goal

abbrev pub invariant-loop-row : goal.invariant-loop-row
invariant-loop-row l = find (is_booking l.number) l.history ≡ find (is_booking l.number) (drop l.row-index l.history)
