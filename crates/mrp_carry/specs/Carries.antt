-- What carrying the bookings of a bundle gives (profile).
use Rattle.std.specs.Prelude.{ℕ, ◌≡◌, ◌≢◌, List, Some, None, Result, Ok, Err, ⊤}
use Rattle.mrp_cal.specs.Calendar.{ShopCalendar}
use Rattle.mrp_rows.specs.declared.faults.TheConstants as faults
use Rattle.mrp_tables.specs.Tables.{Tables}
use Rattle.mrp_book.specs.declared.booking.Booking.{Booking}
use Rattle.mrp_script.specs.declared.fault.OpenFault.{OpenFault}
use Rattle.mrp_script.specs.declared.fault.OpenFault.TheVariants as opening
use Rattle.mrp_script.specs.Opened.{IsAccepted, IsRefused}
use Rattle.mrp_carry.specs.declared.carrying.Carried.{Carried}
use Rattle.mrp_carry.specs.declared.fault.CarryFault.{CarryFault}
use Rattle.mrp_carry.specs.declared.fault.CarryFault.TheVariants.{Refused, NoSuchStart, NoMemory}
use Rattle.mrp_carry.specs.declared.form.CarryForm.{CarryForm}
use Rattle.mrp_carry.specs.Carried.{left_behind, start_week}
use Rattle.mrp_carry.specs.Rows.{IsFirstDay, IsText}
use Rattle.mrp_carry.specs.Standing.{AreStanding}

-- a start is refused: the first and the last Monday of the horizon are told
abbrev pub IsNoStart : ShopCalendar → CarryFault → Type 0
IsNoStart c (NoSuchStart first last) = IsFirstDay c 1 first × IsFirstDay c c.weeks last
IsNoStart c (Refused f) = ⊥
IsNoStart c NoMemory = ⊥

-- the bookings that stand, those of which are carried that are due in this week or later
pub record CarriesFrom (tables : Tables) (start : ℕ) (form : CarryForm) (result : Carried) : Type 0 where
  pub bookings : List Booking
  pub stand : AreStanding tables bookings
  pub text : IsText form tables start bookings result.text.items
  pub others : result.left_behind ≡ left_behind start bookings

-- the bookings of tables are carried from the day with this text, or it is refused
abbrev pub CarriesTables : Tables → List ℕ → CarryForm → Result Carried CarryFault → Type 0
CarriesTables tables start form (Ok result) = (week : ℕ) × (start_week tables.calendar start ≡ Some week) × CarriesFrom tables week form result
CarriesTables tables start form (Err (NoSuchStart first last)) = (start_week tables.calendar start ≡ None) × IsNoStart tables.calendar (NoSuchStart first last)
CarriesTables tables start form (Err (Refused f)) = ⊥
CarriesTables tables start form (Err NoMemory) = ⊤

-- the bookings of an accepted bundle are carried, or its start is refused; or the bundle is refused for its first fault; or
-- memory ran out
abbrev pub Carries : List ℕ → List ℕ → CarryForm → Result Carried CarryFault → Type 0
Carries bundle start form (Ok result) = (tables : Tables) × IsAccepted bundle tables × CarriesTables tables start form (Ok result)
Carries bundle start form (Err (NoSuchStart first last)) = (tables : Tables) × IsAccepted bundle tables × CarriesTables tables start form (Err (NoSuchStart first last))
Carries bundle start form (Err (Refused f)) = IsRefused bundle f × (f.code ≢ faults.NO_MEMORY)
Carries bundle start form (Err NoMemory) = ⊤

-- why nothing is carried where a shop was not opened
abbrev pub opening_fault : OpenFault → CarryFault
opening_fault (opening.Refused f) = Refused f
opening_fault opening.NoMemory = NoMemory
