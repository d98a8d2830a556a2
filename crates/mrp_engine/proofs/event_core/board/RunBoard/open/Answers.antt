use Rattle.std.proofs.Common.{subst, sym}
use Rattle.mrp_board.specs.Board.{BoardLog}
use Rattle.mrp_engine.specs.event_core.Kept.{KeepsLog}
use Rattle.mrp_engine.proofs.lemmas.event_core.RunBoards.{log-none}
use Rattle.mrp_engine.proofs.event_core.board.RunBoard.open.Goals as goal

pub invariant_of-result : goal.invariant_of-result
invariant_of-result c =
    let k = c.in_ok-board in
    subst (λ (l : BoardLog). KeepsLog k.board k.state l) (sym c.new.ensures.items) (log-none k.board k.state k.ensures.opens)
