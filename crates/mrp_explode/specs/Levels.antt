-- Items by their low-level codes (Orlicky: low-level code).
use Rattle.std.specs.Prelude.{ℕ, ◌<◌, List, All, length, Vec}
use Rattle.std.specs.List.{Contains}
use Rattle.std.specs.declared.alloc.Global.{Global}
use Rattle.mrp_tables.specs.declared.rows.BillLine.{BillLine}
use Rattle.mrp_bill.specs.Bill.{IsCode}
use Rattle.mrp_bill.specs.Lists.{listed}

-- the items of a code are those in the list
pub record IsLevel (lines : List BillLine) (count code : ℕ) (items : List ℕ) : Type 0 where
  pub inside : All (λ i. (i < count) × IsCode lines i code) items
  pub all : (i : ℕ) → i < count → IsCode lines i code → Contains items i

-- a list for each code from 0 on, as far as items have codes
pub record AreLevels (lines : List BillLine) (count : ℕ) (levels : List (Vec ℕ Global)) : Type 0 where
  pub each : (code : ℕ) → code < length levels → IsLevel lines count code (listed levels code)
  pub whole : (i : ℕ) → i < count → (code : ℕ) × (code < length levels) × IsCode lines i code
