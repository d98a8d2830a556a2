use Rattle.std.proofs.Common.{◌≡◌, take}
use Rattle.std.specs.Prelude.{filter_map}
use Rattle.mrp_board.specs.BoardState.{outcome_at}
use Rattle.mrp_board.proofs.state.BoardState.parents_of.Given as goal

abbrev pub invariant-loop-parent : goal.invariant-loop-parent
invariant-loop-parent l = l.outcomes.items ≡ filter_map (outcome_at l.self) (take l.parent-index l.parents)
