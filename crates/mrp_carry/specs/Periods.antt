-- The next period: what becomes of carried bookings where they are booked again.
use Rattle.std.specs.Prelude.{ℕ, ◌≡◌, ◌⊎◌, List, [], ◌∷◌, All, length, take, Ok, Option, Some, None}
use Rattle.std.specs.List.{AllZip, enumerate_from}
use Rattle.jiff.specs.Types.{Date}
use Rattle.mrp_cal.specs.Calendar.{week_of}
use Rattle.mrp_rows.specs.Bundle.{bundle_of, text_in}
use Rattle.mrp_rows.specs.declared.fault.Table.TheVariants as t
use Rattle.mrp_tables.specs.Tables.{Tables}
use Rattle.mrp_master.specs.Supply.{supply_of}
use Rattle.mrp_master.specs.declared.line.Line.{Line}
use Rattle.mrp_turn.specs.declared.log.Entry.{Entry}
use Rattle.mrp_book.specs.declared.booking.Booking.{Booking}
use Rattle.mrp_book.specs.declared.call.Call.{Call}
use Rattle.mrp_book.specs.declared.call.Call.TheVariants as call
use Rattle.mrp_book.specs.declared.reply.Reply.{Reply}
use Rattle.mrp_book.specs.declared.reply.Reply.TheVariants as reply
use Rattle.mrp_book.specs.History.{IsLegal}
use Rattle.mrp_book.specs.Standing.{History, standing}
use Rattle.mrp_report.specs.section.Cells.{name_at}
use Rattle.mrp_carry.specs.Rows.{IsFirstDay}

-- the text of a bundle's script
abbrev pub HasScript : List ℕ → List ℕ → Type 0
HasScript bundle script = (texts : List (List ℕ)) × (bundle_of bundle ≡ Ok texts) × (script ≡ text_in texts t.Script)

-- a line of the new tables is one of the old: an item of the same name, the week that has the first day of the old week,
-- and the quantity
pub record IsSameLine (old new : Tables) (l m : Line) : Type 0 where
  pub item : name_at new m.item ≡ name_at old l.item
  pub day : Date
  pub first_day : IsFirstDay old.calendar l.week day
  pub week : week_of new.calendar day ≡ Some m.week
  pub quantity : m.quantity ≡ l.quantity

-- an entry books a booking again, for its desk, and is answered with the entry's number, or with what is available
pub record BooksAgain (old new : Tables) (b : ℕ × Booking) (e : Entry Call Reply) : Type 0 where
  pub desk : e.who ≡ b.1.desk
  pub line : Line
  pub call : e.call ≡ call.Book line
  pub same : IsSameLine old new b.1.line line
  pub answer : (e.reply ≡ reply.Booked b.0) ⊎ ((available : ℕ) × (e.reply ≡ reply.Short available))

-- a booking stands again, under this number
pub record StandsAgain (old new : Tables) (b : ℕ × Booking) (again : Booking) : Type 0 where
  pub number : again.number ≡ b.0
  pub desk : again.desk ≡ b.1.desk
  pub same : IsSameLine old new b.1.line again.line

-- an entry is answered with the number of a booking
abbrev pub IsBooked : Entry Call Reply → Type 0
IsBooked e = (number : ℕ) × (e.reply ≡ reply.Booked number)

-- the first entries of a history, one for each of these bookings
abbrev pub first_entries : List Booking → History → History
first_entries bookings h = take (length bookings) h

-- a history begins with entries that book these bookings again, numbered from 1; those before it decide each reply, so one
-- that is short has what is then available; where each is booked, they stand behind these entries, and nothing else does
pub record BeginsAgain (old new : Tables) (bookings : List Booking) (h : History) : Type 0 where
  pub entries : AllZip (BooksAgain old new) (enumerate_from 1 bookings) (first_entries bookings h)
  pub decided : IsLegal (supply_of new) (first_entries bookings h)
  pub stand : All IsBooked (first_entries bookings h) → AllZip (StandsAgain old new) (enumerate_from 1 bookings) (standing (first_entries bookings h))

-- tables with the same shop, whose scripts may differ
abbrev pub AreOfOneShop : Tables → Tables → Type 0
AreOfOneShop old new = new ≡ record old { script = new.script }

-- a booking and the number that it gets, if it gets one
abbrev pub numbered : Booking × Option ℕ → List (ℕ × Booking)
numbered (b, Some number) = (number, b) ∷ []
numbered (b, None) = []
