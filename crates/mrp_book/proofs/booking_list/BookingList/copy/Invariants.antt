use Rattle.std.specs.declared.sync.Arc.{Arc}
use Rattle.std.proofs.Common.{◌≡◌, List, Vec, Global, map, take}
use Rattle.mrp_book.specs.declared.booking.Booking.{Booking}
use Rattle.mrp_book.proofs.booking_list.BookingList.copy.Given as goal

abbrev bookings_of : Arc (Vec Booking Global) Global → List Booking
bookings_of chunk = chunk.value.items

abbrev pub invariant-loop-chunk : goal.invariant-loop-chunk
invariant-loop-chunk l = map bookings_of l.chunks.items ≡ map bookings_of (take l.chunk-index l.chunk-items)
