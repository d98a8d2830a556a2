use Rattle.std.proofs.Common.{◌≡◌, ◌∙◌, ◌||◌, Bool, false, ap, sym}
use Rattle.std.specs.Prelude.{is_some}
use Rattle.std.specs.List.{list_all}
use Rattle.mrp_item.specs.Inputs.{places}
use Rattle.mrp_board.specs.BoardState.{BoardState, worker_of}
use Rattle.mrp_board.proofs.Waiting.{empty-out}
use Rattle.mrp_board.proofs.state.BoardState.is_at_end.Goals as goal

pub returns-else-self : goal.returns-else-self
returns-else-self c =
    let now = c.args.self.now in
    let b = c.self.inside in
    let here : BoardState = record { inputs = b.inputs.value; out = b.out.items; outcomes = b.outcomes.items; stopped = b.stopped } in
    let going : now.stopped ≡ false = ap (λ (x : BoardState). x.stopped) (sym c.self.view_is) ∙ c.if-self.false in
    c.is_empty.ensures ∙ empty-out here b.queue c.self.invariant
    ∙ ap (λ (x : BoardState). list_all (λ i. is_some (worker_of x i)) (places x.inputs)) c.self.view_is
    ∙ ap (λ (v : Bool). v || list_all (λ i. is_some (worker_of now i)) (places now.inputs)) (sym going)
