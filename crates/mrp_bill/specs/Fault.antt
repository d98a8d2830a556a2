-- When tables are refused.
use Rattle.std.specs.Prelude.{ℕ, List, Result, Ok, Err, Vec, ⊤}
use Rattle.std.specs.declared.alloc.Global.{Global}
use Rattle.mrp_qty.specs.declared.memory.NoMemory.{NoMemory as Refused}
use Rattle.mrp_tables.specs.declared.rows.BillLine.{BillLine}
use Rattle.mrp_bill.specs.declared.fault.BillFault.{BillFault}
use Rattle.mrp_bill.specs.declared.fault.BillFault.TheVariants.{Loop, NoMemory}
use Rattle.mrp_bill.specs.Bill.{IsLoopPath}

-- tables with a loop are refused by its path, or out of memory in the search for it
abbrev pub loop_fault : Result (Vec ℕ Global) Refused → BillFault
loop_fault (Ok path) = Loop path
loop_fault (Err refused) = NoMemory

-- the bill's lines are the reason of the refusal, unless it is out of memory
abbrev pub IsRefusal : List BillLine → BillFault → Type 0
IsRefusal lines (Loop path) = IsLoopPath lines path.items
IsRefusal lines NoMemory = ⊤
