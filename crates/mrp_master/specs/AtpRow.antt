-- An item's supply and bookings, week by week, and its buckets (APICS Dictionary: available-to-promise; profile: its exact
-- rules).
use Rattle.std.specs.Prelude.{ℕ, zero, suc, ◌≡◌, ◌≤◌, ◌<◌, ◌+◌, ◌-◌, ◌==◌, ◌&&◌, if◌then◌else◌, List, [], Option, All, length, sum_by}
use Rattle.std.specs.List.{slice_index_or}
use Rattle.mrp_cal.specs.declared.calendar.TheConstants.{MOST_WEEKS}
use Rattle.mrp_phase.specs.Weeks.{in_week, row, sum_to, with_week}
use Rattle.mrp_master.specs.declared.line.Line.{Line}
use Rattle.mrp_master.specs.Promising.{Covers, IsGreatest, IsLeastWeek}
use Rattle.mrp_master.specs.Supply.{Supply}

-- the supply of each week, and the bookings due in it
pub record AtpRow : Type 0 where
  pub supply : List ℕ
  pub booked : List ℕ

abbrev pub IsWeekOf : AtpRow → ℕ → Type 0
IsWeekOf r week = (1 ≤ week) × (week ≤ length r.supply)

-- up to each week no more is booked than supplied
abbrev pub IsCoveredRow : AtpRow → Type 0
IsCoveredRow r = Covers (IsWeekOf r) (sum_to r.supply) (sum_to r.booked)

-- a row with the bookings of a week replaced
abbrev pub with_booked : AtpRow → ℕ → ℕ → AtpRow
with_booked r week quantity = record { supply = r.supply; booked = with_week r.booked week quantity }

-- a row with one more booking, and with one fewer
abbrev pub with_booking : AtpRow → ℕ → ℕ → AtpRow
with_booking r week quantity = with_booked r week (in_week r.booked week + quantity)

abbrev pub without_booking : AtpRow → ℕ → ℕ → AtpRow
without_booking r week quantity = with_booked r week (in_week r.booked week - quantity)

-- available to promise: the greatest quantity that leaves the row covered with one more booking
abbrev pub IsAvailableIn : AtpRow → ℕ → ℕ → Type 0
IsAvailableIn r week quantity = IsGreatest (λ more. IsCoveredRow (with_booking r week more)) quantity

-- the least week in which one more booking of a quantity leaves the row covered, or none
abbrev pub IsEarliestIn : AtpRow → ℕ → Option ℕ → Type 0
IsEarliestIn r quantity found = IsLeastWeek (IsWeekOf r) (λ week. IsCoveredRow (with_booking r week quantity)) found

-- Buckets.

-- what so many weeks from a week on lack, and take from the bucket before
unfoldable pub lacking : AtpRow → ℕ → ℕ → ℕ
lacking r zero week = 0
lacking r (suc more) week = in_week r.booked week + lacking r more (suc week) - in_week r.supply week

-- a week's carried bucket: its supply, less what is due in it and what the later weeks lack
abbrev pub bucket : AtpRow → ℕ → ℕ
bucket r week = in_week r.supply week - (in_week r.booked week + lacking r (length r.supply - week) (suc week))

-- what is booked from a week up to, but not including, another
abbrev pub booked_until : AtpRow → ℕ → ℕ → ℕ
booked_until r week next = sum_to r.booked (next - 1) - sum_to r.booked (week - 1)

-- what a week and those after it lack
abbrev pub lacking_from : AtpRow → ℕ → ℕ
lacking_from r week = lacking r (length r.supply + 1 - week) week

-- there is no supply between a week and the next one with supply, or the one after the last
abbrev pub IsNextOpening : AtpRow → ℕ → ℕ → Type 0
IsNextOpening r week next = (week < next) × (next ≤ length r.supply + 1) × ((t : ℕ) → week < t → t < next → in_week r.supply t ≡ 0)

-- the buckets up to a week, together
abbrev pub buckets_to : AtpRow → ℕ → ℕ
buckets_to r week = sum_to (row (length r.supply) (bucket r)) week

-- The row of an item.

-- no line is due before week 1
abbrev pub FromFirst : List Line → Type 0
FromFirst lines = All (λ l. 1 ≤ l.week) lines

-- the quantity of an item that is due in a week
abbrev pub due_in : ℕ → ℕ → List Line → ℕ
due_in item week lines = sum_by (λ l. if (l.item == item) && (l.week == week) then l.quantity else 0) lines

-- the supply of a week: its firm quantity, and in week 1 the stock on hand
abbrev pub opening : Supply → ℕ → ℕ → ℕ
opening s item week = (if week == 1 then slice_index_or s.on_hand item 0 else 0) + due_in item week (slice_index_or s.firm item [])

abbrev pub atp_row : Supply → ℕ → List Line → AtpRow
atp_row s item lines = record { supply = row s.weeks (opening s item); booked = row s.weeks (λ week. due_in item week lines) }

-- what holds of every row
pub record IsAtpRow (r : AtpRow) : Type 0 where
  pub weeks : length r.supply ≤ MOST_WEEKS
  pub same : length r.booked ≡ length r.supply
  pub covered : IsCoveredRow r
