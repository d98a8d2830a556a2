use Rattle.std.proofs.Common.{ℕ, List, ◌++◌, map, take, drop}
use Rattle.mrp_peg.specs.declared.matching.Requirement.{Requirement}
use Rattle.mrp_peg.specs.Placed.{ArePut}
use Rattle.mrp_peg.specs.Rows.{service_requirement}
use Rattle.mrp_peg.proofs.services.put_services.Given as goal

-- the requirements of the rows up to a place are put, and those of the others are to come
abbrev pub invariant-loop-service : goal.invariant-loop-service
invariant-loop-service l = (count : ℕ) (placed rest : List Requirement)
    → ArePut count placed (map (service_requirement l.item) l.services ++ rest) l.initial.next l.initial.needs
    → ArePut count (placed ++ take l.service-index (map (service_requirement l.item) l.services)) (drop l.service-index (map (service_requirement l.item) l.services) ++ rest) l.next l.needs
