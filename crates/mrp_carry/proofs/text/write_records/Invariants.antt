use Rattle.std.proofs.Common.{take}
use Rattle.std.specs.List.{AllZip}
use Rattle.mrp_carry.specs.Carried.{carried}
use Rattle.mrp_carry.specs.Rows.{IsBetweenRows, IsRecordOf, Writes}
use Rattle.mrp_carry.proofs.text.write_records.Given as goal

abbrev pub invariant-loop-booking : goal.invariant-loop-booking
invariant-loop-booking g l =
    IsBetweenRows l.rows × Writes g.W.Write.contents l.fn.rows l.rows (AllZip (IsRecordOf l.shop.tables) (carried l.start (take l.booking-index l.bookings)))
