use Rattle.std.proofs.Common.{ℕ, List, ◌++◌, map, take}
use Rattle.std.specs.List.{enumerate_from}
use Rattle.mrp_peg.specs.declared.matching.Requirement.{Requirement}
use Rattle.mrp_peg.specs.Placed.{AreCounted}
use Rattle.mrp_peg.specs.Rows.{order_requirement}
use Rattle.mrp_peg.proofs.parents.count_all.Given as goal

abbrev pub invariant-loop-order : goal.invariant-loop-order
invariant-loop-order l = (count item line per : ℕ) (counted : List Requirement) → AreCounted count counted l.initial.counts
    → AreCounted count (counted ++ take l.order-index (map (order_requirement item line per) (enumerate_from 1 l.orders))) l.counts
