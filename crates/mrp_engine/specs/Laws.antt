-- That a bundle has a day, and what holds of the bookings of an answered script.
use Rattle.std.specs.Prelude.{ℕ, ◌≡◌, ◌≤◌, ◌+◌, ◌⊎◌, List, ◌∷◌, ◌++◌, length, All, Contains, Ok, Err}
use Rattle.mrp_rows.specs.declared.fault.Fault.{Fault}
use Rattle.mrp_tables.specs.declared.rows.BillLine.{BillLine}
use Rattle.mrp_tables.specs.declared.rows.ScriptCall.{ScriptCall}
use Rattle.mrp_tables.specs.Tables.{AreTables, Tables, tables_of}
use Rattle.mrp_bill.specs.Bill.{IsFirstLoop, NeedsItself}
use Rattle.mrp_turn.specs.declared.log.Entry.{Entry}
use Rattle.mrp_master.specs.declared.line.Line.{Line}
use Rattle.mrp_master.specs.Supply.{IsAvailable, IsCovered, supply_of}
use Rattle.mrp_book.specs.declared.call.Call.{Call}
use Rattle.mrp_book.specs.declared.call.Call.TheVariants as call
use Rattle.mrp_book.specs.declared.reply.Reply.{Reply}
use Rattle.mrp_book.specs.declared.reply.Reply.TheVariants as reply
use Rattle.mrp_book.specs.Standing.{History, booked, standing}
use Rattle.mrp_item.specs.Inputs.{Inputs}
use Rattle.mrp_script.specs.Script.{call_of, script_of, with_run}
use Rattle.mrp_engine.specs.day.Day.{IsDay, IsFirstRefusal, IsPlannable, IsTooLarge, runs_of}
use Rattle.mrp_script.specs.Opened.{IsRefused}

-- a bundle has tables, which keep their limits, or a first fault
abbrev pub HasReading : List ℕ → Type 0
HasReading bundle = ((tables : Tables) × (tables_of bundle ≡ Ok tables) × AreTables tables) ⊎ ((f : Fault) × (tables_of bundle ≡ Err f))

-- a first item needs itself, or none does
abbrev pub HasLoopOrNone : List BillLine → Type 0
HasLoopOrNone lines = ((item : ℕ) × IsFirstLoop lines item) ⊎ ((i : ℕ) → NeedsItself lines i → ⊥)

-- no item of any run gets too large, or a run is the first that is refused, by the item of a name
abbrev pub ArePlannedOrRefused : List Inputs → Type 0
ArePlannedOrRefused runs = All IsPlannable runs ⊎ ((name : List ℕ) × IsFirstRefusal runs name)

-- a bundle has the text of a day, or a first fault, a loop in the bill last, or the name of the item that gets too
-- large in the first run that is refused
abbrev pub HasDay : List ℕ → Type 0
HasDay bundle = ((text : List ℕ) × IsDay bundle text) ⊎ ((f : Fault) × IsRefused bundle f) ⊎ ((name : List ℕ) × IsTooLarge bundle name)

-- a run of a history: an entry of it called for a snapshot, and the run plans from the bookings that stood then
pub record IsRunOf (tables : Tables) (h : History) (s : Inputs) : Type 0 where
  pub before : History
  pub entry : Entry Call Reply
  pub after : History
  pub place : h ≡ before ++ entry ∷ after
  pub called : entry.call ≡ call.Snapshot
  pub source : s ≡ record { tables = tables; front = length before + 1; standing = standing before }

-- each run is planned from what stood at its entry, whatever comes later
abbrev pub PlansWhatStood : Tables → History → Type 0
PlansWhatStood tables h = All (IsRunOf tables h) (runs_of tables h)

-- each booking that was made was within what was available then
abbrev pub BooksWithin : Tables → History → Type 0
BooksWithin tables h =
    (before : History) (e : Entry Call Reply) (after : History) (l : Line) (n : ℕ) → h ≡ before ++ e ∷ after → e.call ≡ call.Book l → e.reply ≡ reply.Booked n
    → (available : ℕ) × IsAvailable (supply_of tables) (booked before) l.item l.week available × (l.quantity ≤ available)

-- at every front the standing bookings are covered by the supply
abbrev pub StaysCovered : Tables → History → Type 0
StaysCovered tables h = (before after : History) → h ≡ before ++ after → IsCovered (supply_of tables) (booked before)

-- a call by one of the script's five words
abbrev pub IsOfWord : Call → Type 0
IsOfWord c = (word : ScriptCall) × (c ≡ call_of word)

-- every call of a history is one of these
abbrev pub CallsByWords : History → Type 0
CallsByWords h = All (λ e. IsOfWord e.call) h

-- every call of a history is one of the script's records, or the run that is added to a script without one
abbrev pub CallsFromScript : Tables → History → Type 0
CallsFromScript tables h = All (λ e. Contains (with_run (script_of tables)) (e.who, e.call)) h
