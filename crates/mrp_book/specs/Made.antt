-- The representation of a book's state.
use Rattle.std.specs.Prelude.{ℕ, ◌≡◌, ◌≤◌, ◌<◌, Bool, List, [], ◌∷◌, All, map, filter, length, Option, Some, None}
use Rattle.std.specs.List.{slice_index_or}
use Rattle.mrp_book.specs.declared.booking.Booking.{Booking}
use Rattle.mrp_book.specs.declared.made.Made.{Made}
use Rattle.mrp_tables.specs.declared.limits.TheConstants.{MOST_ENTRIES}
use Rattle.mrp_master.specs.Supply.{Supply, IsMaster, IsSupply}
use Rattle.mrp_master.specs.AtpRow.{AtpRow, atp_row}
use Rattle.mrp_book.specs.Booked.{AreBooked}
use Rattle.mrp_book.specs.Bookings.{lines_of}

-- the bookings made, each with whether it stands
abbrev pub made_of : List Booking → List Bool → List Made
made_of (b ∷ bookings) (s ∷ stands) = record { booking = b; stands = s } ∷ made_of bookings stands
made_of bookings stands = []

-- the standing ones of the bookings made
abbrev pub standing_of : List Made → List Booking
standing_of made = map (λ m. m.booking) (filter (λ m. m.stands) made)

-- each number is greater than those before it
abbrev pub IsRising : List Made → Type 0
IsRising made = (i j : ℕ) (d : Made) → i < j → j < length made → (slice_index_or made i d).booking.number < (slice_index_or made j d).booking.number

-- each master item has its row
abbrev pub HasRows : Supply → List (Option AtpRow) → List Booking → Type 0
HasRows s rows standing = (item : ℕ) → IsMaster s item → slice_index_or rows item None ≡ Some (atp_row s item (lines_of standing))

-- the rows have what is booked, and each booking was made by an entry, in order of rising numbers
pub record KeepsState (s : Supply) (entries : ℕ) (rows : List (Option AtpRow)) (made : List Made) : Type 0 where
  pub supplied : IsSupply s
  pub by_item : HasRows s rows (standing_of made)
  pub booked : AreBooked s (standing_of made)
  pub rising : IsRising made
  pub by_entries : All (λ m. m.booking.number ≤ entries) made
  pub few : entries ≤ MOST_ENTRIES
