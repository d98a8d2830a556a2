-- A script's calls, in a list for each desk (profile).
use Rattle.std.specs.Prelude.{ℕ, ◌≡◌, ◌+◌, List, length, map, sum_by, Vec}
use Rattle.std.specs.declared.alloc.Global.{Global}
use Rattle.mrp_bill.specs.Lists.{listed}
use Rattle.mrp_book.specs.declared.call.Call.{Call}
use Rattle.mrp_script.specs.Script.{Script}
use Rattle.mrp_engine.specs.day.RightDay.{asked_by}

-- calls as records of a desk
abbrev pub asks : ℕ → List Call → Script
asks desk calls = map (λ c. (desk, c)) calls

-- the calls in the list at a place, and none past the last
abbrev pub calls_at : List (Vec Call Global) → ℕ → List Call
calls_at lists place = listed lists place

-- how many calls the lists have in all
abbrev pub count_in : List (Vec Call Global) → ℕ
count_in lists = sum_by (λ list. length list.items) lists

-- a list for each desk from 1 on: the calls of its records in order. There are as many calls as records, so a desk
-- without a list has none
pub record AreCallsOf (records : Script) (lists : List (Vec Call Global)) : Type 0 where
  pub each : (place : ℕ) → asks (place + 1) (calls_at lists place) ≡ asked_by (place + 1) records
  pub count : count_in lists ≡ length records
