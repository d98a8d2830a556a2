use Rattle.std.proofs.Common.{◌≡◌, length, take}
use Rattle.std.specs.List.{AllZip}
use Rattle.mrp_carry.specs.Carried.{carried, renumbered}
use Rattle.mrp_carry.specs.Rows.{IsBetweenRows, IsRowOf, Writes}
use Rattle.mrp_carry.proofs.text.write_list.Given as goal

abbrev pub invariant-loop-booking : goal.invariant-loop-booking
invariant-loop-booking g l =
    (l.given ≡ length (carried l.start (take l.booking-index l.bookings)))
    × IsBetweenRows l.rows × Writes g.W.Write.contents l.fn.rows l.rows (AllZip (IsRowOf l.shop.tables) (renumbered l.start 1 (take l.booking-index l.bookings)))
