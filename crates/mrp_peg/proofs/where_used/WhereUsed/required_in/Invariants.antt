use Rattle.std.proofs.Common.{◌≡◌, ◌++◌, take}
use Rattle.std.specs.Prelude.{◌==◌, filter, flat_map}
use Rattle.mrp_bill.specs.Bill.{lines_of}
use Rattle.mrp_peg.specs.Rows.{line_requirements}
use Rattle.mrp_peg.proofs.where_used.WhereUsed.required_in.Given as goal

abbrev pub invariant-loop-at : goal.invariant-loop-at
invariant-loop-at l = l.needs.items ≡ l.initial.needs.items ++ flat_map (λ place. filter (λ requirement. requirement.need.week == l.week) (line_requirements l.self.plan.now.inputs l.self.item place)) (take l.at (lines_of l.self.plan.now.inputs.tables.bills l.self.item))
