use Rattle.std.proofs.Common.{◌≡◌, None}
use Rattle.std.specs.Prelude.{replicate}
use Rattle.mrp_board.proofs.state.BoardState.open.Given as goal

abbrev pub invariant-loop : goal.invariant-loop
invariant-loop l = record { out : l.out.items ≡ replicate l.counter None; outcomes : l.outcomes.items ≡ replicate l.counter None }
