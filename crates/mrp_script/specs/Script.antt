-- A script as calls on the order book, and the history that answers it (profile).
use Rattle.std.specs.Prelude.{ℕ, ◌≡◌, Bool, true, false, if◌then◌else◌, List, [], ◌∷◌, ◌++◌, map}
use Rattle.std.specs.List.{list_any}
use Rattle.mrp_tables.specs.declared.rows.ScriptCall.{ScriptCall}
use Rattle.mrp_tables.specs.declared.rows.ScriptCall.TheVariants as s
use Rattle.mrp_tables.specs.declared.rows.ScriptRow.{ScriptRow}
use Rattle.mrp_tables.specs.Tables.{Tables}
use Rattle.mrp_master.specs.Supply.{supply_of}
use Rattle.mrp_book.specs.declared.call.Call.{Call}
use Rattle.mrp_book.specs.declared.call.Call.TheVariants as call
use Rattle.mrp_book.specs.History.{IsLegal, asked}
use Rattle.mrp_book.specs.Standing.{History}

-- a script's call as a call on the order book: a run takes a snapshot
abbrev pub call_of : ScriptCall → Call
call_of (s.Book item week quantity) = call.Book (record { item = item; week = week; quantity = quantity })
call_of (s.Cancel entry) = call.Cancel entry
call_of (s.Ask item week) = call.Ask (record { item = item; week = week })
call_of (s.When item quantity) = call.When (record { item = item; quantity = quantity })
call_of s.Run = call.Snapshot

-- which desk makes which call
abbrev pub Script : Type 0
Script = List (ℕ × Call)

-- a record of a script: the desk, and its call
abbrev pub record_of : ScriptRow → ℕ × Call
record_of r = (r.desk, call_of r.call)

abbrev pub script_of : Tables → Script
script_of t = map record_of t.script

abbrev pub is_run : Call → Bool
is_run call.Snapshot = true
is_run c = false

-- a script without a run gets one more record at its end, a run of desk 1
abbrev pub with_run : Script → Script
with_run script = if list_any (λ r. is_run r.1) script then script else script ++ (1, call.Snapshot) ∷ []

-- the legal history that answers the script's records in row order
pub record AnswersScript (tables : Tables) (h : History) : Type 0 where
  pub legal : IsLegal (supply_of tables) h
  pub in_order : asked h ≡ with_run (script_of tables)
