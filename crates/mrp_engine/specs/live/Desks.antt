-- What desks leave after their calls (profile).
use Rattle.std.specs.Prelude.{ℕ, ◌≡◌, ◌<◌, ◌≤◌, ◌+◌, ◌++◌, ◌⊎◌, List, ◌∷◌, All, Any, Result, Ok, Err, IfErr, IsOk, OnOk, length, slice_index_or}
use Rattle.mrp_tables.specs.declared.rows.ScriptRow.{ScriptRow}
use Rattle.mrp_bill.specs.Shop.{Shop}
use Rattle.mrp_turn.specs.Seen.{TurnId}
use Rattle.mrp_book.specs.declared.call.Call.{Call}
use Rattle.mrp_book.specs.declared.refused.Refused.{Refused}
use Rattle.mrp_book.specs.declared.refused.Refused.TheVariants.{Full}
use Rattle.mrp_book.specs.History.{IsFull, asked}
use Rattle.mrp_master.specs.Supply.{Supply}
use Rattle.mrp_desk.specs.Calls.{HasCause}
use Rattle.mrp_desk.specs.Offices.{Desk}
use Rattle.mrp_engine.specs.declared.live.serving.Served.{Served}
use Rattle.mrp_engine.specs.live.DeskCalls.{asks}
use Rattle.mrp_script.specs.Script.{Script}
use Rattle.mrp_engine.specs.day.RightDay.{asked_by}

-- a desk that makes calls was refused one of them: it has made those before it, and the refusal has its cause
pub record IsRefusedOne (s : Supply) (calls : List Call) (old new : Desk) (e : Refused) : Type 0 where
  pub done : List Call
  pub call : Call
  pub left : List Call
  pub place : calls ≡ done ++ call ∷ left
  pub made : asked new.mine ≡ asked old.mine ++ asks old.number done
  pub cause : HasCause s call new.seen e

-- a desk has made calls in order, or was refused one of them
pub record HasServed (s : Supply) (calls : List Call) (old : Desk) {U : Type 0} (end : Result U Refused) (new : Desk) : Type 0 where
  pub office : new.turn ≡ old.turn
  pub desk : new.number ≡ old.number
  pub served : OnOk end (asked new.mine ≡ asked old.mine ++ asks old.number calls)
  pub refused : IfErr end (IsRefusedOne s calls old new)

-- as many desks as the greatest desk number of a script, and at least the desk of an added run
pub record IsDeskCount (rows : List ScriptRow) (count : ℕ) : Type 0 where
  pub some : 1 ≤ count
  pub all : All (λ row. row.desk ≤ count) rows
  pub least : (count ≡ 1) ⊎ Any (λ row. row.desk ≡ count) rows

-- a list of desks of an office, numbered from 1 to their count
pub record AreDesksOf (office : TurnId Shop) (desks : List Desk) : Type 0 where
  pub of_office : All (λ d. d.turn ≡ office) desks
  pub count : length desks ≡ office.about.seats
  pub numbers : (k : ℕ) (d : Desk) → k < length desks → (slice_index_or desks k d).number ≡ k + 1

-- desks have made the calls of their records, or one of them was refused a call: a book was full where that is the cause
pub record HaveServed (records : Script) (desks : List Desk) {U : Type 0} (end : Result U Refused) : Type 0 where
  pub served : OnOk end (All (λ d. asked d.mine ≡ asked_by d.number records) desks)
  pub few : All (λ d. length d.mine ≤ length (asked_by d.number records)) desks
  pub full : end ≡ Err Full → Any (λ d. IsFull d.seen) desks

-- how the calls of desks ended, all together: all were answered, or one of them was refused like this
abbrev pub EndAs : List Served → Result (Unit {0}) Refused → Type 0
EndAs all (Ok u) = All (λ s. IsOk s.end) all
EndAs all (Err e) = Any (λ s. s.end ≡ Err e) all
