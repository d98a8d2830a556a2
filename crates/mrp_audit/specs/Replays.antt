-- A history that a text begins with, and in which each desk's entries are its script records.
use Rattle.std.specs.Prelude.{ℕ, ◌≡◌, ◌≤◌, ◌++◌, List, Option, Some, None, Result, Ok, Err, drop, length}
use Rattle.std.specs.Int.{IsInRange}
use Rattle.mrp_qty.specs.declared.memory.NoMemory.{NoMemory}
use Rattle.mrp_tables.specs.declared.limits.TheConstants.{MOST_DESKS}
use Rattle.mrp_tables.specs.Tables.{Tables}
use Rattle.mrp_master.specs.Supply.{Supply, supply_of}
use Rattle.mrp_book.specs.declared.call.Call.{Call}
use Rattle.mrp_book.specs.Books.{OrderBook}
use Rattle.mrp_book.specs.Standing.{History}
use Rattle.mrp_book.specs.History.{Fits, IsLegal}
use Rattle.mrp_report.specs.section.HistoryText.{history_text}
use Rattle.mrp_engine.specs.day.RightDay.{FollowsDesks}
use Rattle.mrp_claims.specs.Shape.{EndsHistory}

-- a record that a book of this supply takes
pub record IsTaken (b : Supply) (r : ℕ × Call) : Type 0 where
  pub desk : IsInRange 1 MOST_DESKS r.0
  pub fits : Fits b r.1

-- the first so many bytes of a text are a legal history that answers the script desk by desk, and it ends
-- there
pub record IsFollowedFront (t : Tables) (h : History) (text : List ℕ) (len : ℕ) : Type 0 where
  pub legal : IsLegal (supply_of t) h
  pub by_desk : FollowsDesks t h
  pub within : len ≤ length text
  pub spelled : text ≡ history_text t h ++ drop len text
  pub ends : EndsHistory (drop len text)

-- such a history was found; if none was, nothing is said
abbrev pub FindsHistory : Tables → List ℕ → Result (Option (OrderBook × ℕ)) NoMemory → Type 0
FindsHistory t text (Ok (Some found)) = (found.0.supply ≡ supply_of t) × IsFollowedFront t found.0.entries text found.1
FindsHistory t text (Ok None) = Unit {0}
FindsHistory t text (Err refused) = Unit {0}
