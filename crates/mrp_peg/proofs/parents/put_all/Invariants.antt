use Rattle.std.proofs.Common.{ℕ, List, ◌++◌, map, take, drop}
use Rattle.std.specs.List.{enumerate_from}
use Rattle.mrp_peg.specs.declared.matching.Requirement.{Requirement}
use Rattle.mrp_peg.specs.Placed.{ArePut}
use Rattle.mrp_peg.specs.Rows.{order_requirement}
use Rattle.mrp_peg.proofs.parents.put_all.Given as goal

-- the requirements of the orders up to a place are put, and those of the others are to come
abbrev pub invariant-loop-place : goal.invariant-loop-place
invariant-loop-place l = (count : ℕ) (placed rest : List Requirement)
    → ArePut count placed (map (order_requirement l.item l.by.line l.by.per) (enumerate_from 1 l.orders) ++ rest) l.initial.next l.initial.needs
    → ArePut count (placed ++ take l.place (map (order_requirement l.item l.by.line l.by.per) (enumerate_from 1 l.orders)))
    (drop l.place (map (order_requirement l.item l.by.line l.by.per) (enumerate_from 1 l.orders)) ++ rest) l.next l.needs
