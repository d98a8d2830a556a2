-- The bookings that stand at the end of a script (profile).
use Rattle.std.specs.Prelude.{◌≡◌, List}
use Rattle.mrp_tables.specs.Tables.{Tables}
use Rattle.mrp_master.specs.Supply.{supply_of}
use Rattle.mrp_book.specs.declared.booking.Booking.{Booking}
use Rattle.mrp_book.specs.Standing.{History, standing}
use Rattle.mrp_book.specs.History.{IsLegal, asked}
use Rattle.mrp_script.specs.Script.{script_of}

-- bookings are those that stand behind the last record of a script that is answered in row order
pub record AreStanding (tables : Tables) (bookings : List Booking) : Type 0 where
  pub history : History
  pub legal : IsLegal (supply_of tables) history
  pub in_order : asked history ≡ script_of tables
  pub left : bookings ≡ standing history
