use Rattle.std.proofs.Common.{ℕ, List, ◌++◌, take}
use Rattle.std.specs.Prelude.{flat_map}
use Rattle.mrp_bill.specs.Bill.{lines_of}
use Rattle.mrp_peg.specs.declared.matching.Requirement.{Requirement}
use Rattle.mrp_peg.specs.Placed.{AreCounted}
use Rattle.mrp_peg.specs.Rows.{line_requirements}
use Rattle.mrp_peg.proofs.where_used.WhereUsed.count_required.Given as goal

abbrev pub invariant-loop-at : goal.invariant-loop-at
invariant-loop-at l = (count : ℕ) (counted : List Requirement) → AreCounted count counted l.initial.counts
    → AreCounted count (counted ++ flat_map (line_requirements l.self.plan.now.inputs l.self.item) (take l.at (lines_of l.self.plan.now.inputs.tables.bills l.self.item))) l.counts
