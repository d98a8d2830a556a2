use Rattle.std.proofs.Common.{◌∙◌, ap}
use Rattle.std.specs.Prelude.{find}
use Rattle.mrp_item.specs.Inputs.{places}
use Rattle.mrp_board.specs.BoardState.{BoardState, can_go_out}
use Rattle.mrp_board.proofs.Waiting.{first-out}
use Rattle.mrp_board.proofs.state.BoardState.first.Goals as goal

pub returns : goal.returns
returns c =
    let b = c.self.inside in
    let here : BoardState = record { inputs = b.inputs.value; out = b.out.items; outcomes = b.outcomes.items; stopped = b.stopped } in
    c.first.ensures ∙ first-out here b.queue c.self.invariant ∙ ap (λ (x : BoardState). find (can_go_out x) (places x.inputs)) c.self.view_is
