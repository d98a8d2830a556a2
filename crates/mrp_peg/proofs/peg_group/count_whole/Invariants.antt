use Rattle.std.proofs.Common.{◌≡◌, ◌+◌, ◌-◌, ◌<◌, ◌≤◌, take}
use Rattle.std.specs.Prelude.{All}
use Rattle.mrp_peg.specs.declared.matching.Requirement.{Requirement}
use Rattle.mrp_peg.specs.Matching.{amounts_required}
use Rattle.mrp_peg.specs.Units.{total}
use Rattle.mrp_peg.proofs.peg_group.count_whole.Given as goal

abbrev pub invariant-loop-count : goal.invariant-loop-count
invariant-loop-count l = record {
  few : l.count ≤ l.most;
  weekly : All (λ (r : Requirement). r.need.week ≡ l.week) (take l.count l.needs);
  some : All (λ (r : Requirement). 0 < r.quantity) (take l.count l.needs);
  sum : l.left + total (amounts_required (take l.count l.needs)) ≡ l.pieces;
}

abbrev pub decreases-loop-count : goal.decreases-loop-count
decreases-loop-count l = l.most - l.count
