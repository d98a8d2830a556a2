-- The standing bookings of a history.
use Rattle.std.specs.Prelude.{ℕ, ◌==◌, Bool, false, if◌then◌else◌, List, [], ◌∷◌, ◌++◌, filter, not, Option, Some, None}
use Rattle.std.specs.List.{list_any}
use Rattle.mrp_turn.specs.declared.log.Entry.{Entry}
use Rattle.mrp_master.specs.declared.line.Line.{Line}
use Rattle.mrp_book.specs.declared.booking.Booking.{Booking}
use Rattle.mrp_book.specs.declared.call.Call.{Call}
use Rattle.mrp_book.specs.declared.call.Call.TheVariants as call
use Rattle.mrp_book.specs.declared.reply.Reply.{Reply}
use Rattle.mrp_book.specs.declared.reply.Reply.TheVariants as reply
use Rattle.mrp_book.specs.Bookings.{lines_of}

abbrev pub History : Type 0
History = List (Entry Call Reply)

-- the booking that an entry made
abbrev pub booking_of : ℕ → Call → Reply → Option Booking
booking_of desk (call.Book l) (reply.Booked n) = Some (record { number = n; desk = desk; line = l })
booking_of desk c r = None

-- whether an entry cancelled the booking with this number
abbrev pub is_cancel_of : ℕ → Call → Reply → Bool
is_cancel_of n (call.Cancel m) reply.Cancelled = m == n
is_cancel_of n c r = false

abbrev pub is_cancelled_in : History → ℕ → Bool
is_cancelled_in later n = list_any (λ e. is_cancel_of n e.call e.reply) later

-- a booking, if one was made, unless a later entry cancelled it
abbrev pub kept : History → Option Booking → List Booking
kept later None = []
kept later (Some b) = if is_cancelled_in later b.number then [] else b ∷ []

-- the bookings answered Booked that no later entry answered Cancelled names
unfoldable pub standing : History → List Booking
standing [] = []
standing (e ∷ later) = kept later (booking_of e.who e.call e.reply) ++ standing later

-- the standing bookings, as quantities due
abbrev pub booked : History → List Line
booked h = lines_of (standing h)

-- the standing bookings after one more entry, from those before it: a call answered Booked adds its booking, and one
-- answered Cancelled removes the booking that it names
abbrev pub stands_after : ℕ → Call → Reply → List Booking → List Booking
stands_after desk (call.Book l) (reply.Booked n) bookings = bookings ++ record { number = n; desk = desk; line = l } ∷ []
stands_after desk (call.Cancel n) reply.Cancelled bookings = filter (λ b. not (n == b.number)) bookings
stands_after desk c r bookings = bookings
