-- Which items that need themselves are told.
use Rattle.std.specs.Prelude.{ℕ, List, Option}
use Rattle.std.specs.List.{Contains}
use Rattle.mrp_loops.specs.declared.line.Loop.{Loop}
use Rattle.mrp_loops.specs.Loops.{IsWayBack}
use Rattle.mrp_loops.specs.Needs.{NeedEachOther, Needs}
use Rattle.mrp_survey.specs.declared.bill_lines.BillLine.{BillLine}
use Rattle.mrp_survey.specs.Loops.{edges_of, loop_told}
use Rattle.mrp_survey.specs.Names.{Names}
use Rattle.mrp_survey.specs.Records.{Records}
use Rattle.mrp_survey.specs.Surveyed.{LoopTold}

-- an item is in a set that is told: it and an item of which a way back to itself is told need one another
pub record IsInTold (items : Option Names) (records : Records) (lines : List BillLine) (found : List LoopTold) (item : ℕ) : Type 0 where
  pub own : Loop
  pub told : Contains found (loop_told items records lines own)
  pub each : NeedEachOther (edges_of lines) item own.item
  pub leads : IsWayBack (edges_of lines) own.item own.way.items

-- each item that needs itself is in a set that is told, by bill lines that lead from an item to itself
abbrev pub TellsEachItem : Option Names → Records → List BillLine → List LoopTold → Type 0
TellsEachItem items records lines found = (item : ℕ) → Needs (edges_of lines) item item → IsInTold items records lines found item
