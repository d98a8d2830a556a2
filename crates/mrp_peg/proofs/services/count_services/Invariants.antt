use Rattle.std.proofs.Common.{ℕ, List, ◌++◌, map, take}
use Rattle.mrp_peg.specs.declared.matching.Requirement.{Requirement}
use Rattle.mrp_peg.specs.Placed.{AreCounted}
use Rattle.mrp_peg.specs.Rows.{service_requirement}
use Rattle.mrp_peg.proofs.services.count_services.Given as goal

abbrev pub invariant-loop-service : goal.invariant-loop-service
invariant-loop-service l = (count item : ℕ) (counted : List Requirement) → AreCounted count counted l.initial.counts
    → AreCounted count (counted ++ take l.service-index (map (service_requirement item) l.services)) l.counts
