use Rattle.std.proofs.Common.{ℕ, List, ◌++◌, take, drop}
use Rattle.std.specs.Prelude.{flat_map}
use Rattle.mrp_bill.specs.Bill.{lines_of}
use Rattle.mrp_peg.specs.declared.matching.Requirement.{Requirement}
use Rattle.mrp_peg.specs.Placed.{ArePut}
use Rattle.mrp_peg.specs.Rows.{line_requirements, parent_requirements}
use Rattle.mrp_peg.proofs.where_used.WhereUsed.put_required.Given as goal

-- the requirements of the lines up to a place are put, and those of the others are to come
abbrev pub invariant-loop-at : goal.invariant-loop-at
invariant-loop-at l = (count : ℕ) (placed rest : List Requirement)
    → ArePut count placed (parent_requirements l.self.plan.now.inputs l.self.item ++ rest) l.initial.next l.initial.needs
    → ArePut count (placed ++ flat_map (line_requirements l.self.plan.now.inputs l.self.item) (take l.at (lines_of l.self.plan.now.inputs.tables.bills l.self.item)))
    (flat_map (line_requirements l.self.plan.now.inputs l.self.item) (drop l.at (lines_of l.self.plan.now.inputs.tables.bills l.self.item)) ++ rest) l.next l.needs
