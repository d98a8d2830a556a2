-- The start of the next period, and the bookings that are carried into it (profile).
use Rattle.std.specs.Prelude.{ℕ, ◌+◌, Bool, not, nat_le, if◌then◌else◌, List, [], ◌∷◌, count_by, filter, Option, Some, None}
use Rattle.jiff.specs.Types.{Date}
use Rattle.mrp_cal.specs.Calendar.{ShopCalendar, is_monday, week_of}
use Rattle.mrp_cal.specs.DateText.{date_of}
use Rattle.mrp_book.specs.declared.booking.Booking.{Booking}

-- the week that begins on a day; none if the day is no Monday, or outside the horizon
abbrev pub week_from : ShopCalendar → Option Date → Option ℕ
week_from c None = None
week_from c (Some day) = if is_monday day then week_of c day else None

-- the week that begins on the day with this text
abbrev pub start_week : ShopCalendar → List ℕ → Option ℕ
start_week c text = week_from c (date_of text)

-- a booking is due in a week or later
abbrev pub is_due_from : ℕ → Booking → Bool
is_due_from start b = nat_le start b.line.week

-- the bookings that are carried: those due from the start on
abbrev pub carried : ℕ → List Booking → List Booking
carried start bookings = filter (is_due_from start) bookings

-- how many are not
abbrev pub left_behind : ℕ → List Booking → ℕ
left_behind start bookings = count_by (λ b. not (is_due_from start b)) bookings

-- each booking with the number that it gets, if it is carried: those that are get numbers from `next` on
unfoldable pub renumbered : ℕ → ℕ → List Booking → List (Booking × Option ℕ)
renumbered start next [] = []
renumbered start next (b ∷ bookings) =
    if is_due_from start b then (b, Some next) ∷ renumbered start (next + 1) bookings
    else (b, None) ∷ renumbered start next bookings
