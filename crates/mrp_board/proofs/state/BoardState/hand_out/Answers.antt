use Rattle.std.proofs.Common.{◌≡◌, ◌∙◌, ◌<◌, ℕ, true, List, Option, Some, None, length, set, sym, ap, subst, arith}
use Rattle.std.proofs.lemmas.Option.{MatchOption-at_some}
use Rattle.std.specs.Prelude.{find}
use Rattle.mrp_item.specs.Inputs.{count, places}
use Rattle.mrp_board.specs.BoardState.{BoardState, can_go_out}
use Rattle.mrp_board.specs.Kept.{KeepsBoard}
use Rattle.mrp_board.specs.Queue.{is_due, queue_places}
use Rattle.mrp_board.proofs.Tests.{found-in}
use Rattle.mrp_board.proofs.Waiting.{first-out, kept-out}
use Rattle.mrp_board.proofs.state.BoardState.hand_out.Goals as goal

pub index_mut-requires : goal.index_mut-requires
index_mut-requires c =
    let b = c.self.inside in
    let here : BoardState = record { inputs = b.inputs.value; out = b.out.items; outcomes = b.outcomes.items; stopped = b.stopped } in
    let found : find (can_go_out here) (places here.inputs) ≡ Some c.args.item = ap (λ (x : BoardState). find (can_go_out x) (places x.inputs)) c.self.view_is ∙ c.requires in
    let within = found-in (can_go_out here) 0 (count here.inputs) c.args.item found in
    omega (arith, within.1, c.self.invariant.out_size, b.out.ok.0)

pub invariant_of-self : goal.invariant_of-self
invariant_of-self c =
    let b = c.self.inside in
    let here : BoardState = record { inputs = b.inputs.value; out = b.out.items; outcomes = b.outcomes.items; stopped = b.stopped } in
    let found : find (can_go_out here) (places here.inputs) ≡ Some c.args.item = ap (λ (x : BoardState). find (can_go_out x) (places x.inputs)) c.self.view_is ∙ c.requires in
    let within : c.args.item < count here.inputs = let w = found-in (can_go_out here) 0 (count here.inputs) c.args.item found in omega (arith, w.1) in
    let first : find (is_due b.queue) (queue_places b.queue) ≡ Some c.args.item = first-out here b.queue c.self.invariant ∙ found in
    let due : is_due b.queue c.args.item ≡ true = (found-in (is_due b.queue) 0 (length b.queue) c.args.item first).0 in
    let left : c.take_first.new.self ≡ set b.queue c.args.item None =
    MatchOption-at_some (c.take_first.new.self ≡ b.queue) (λ (i : ℕ). c.take_first.new.self ≡ set b.queue i None) c.args.item (c.take_first.ensures.first ∙ first) c.take_first.ensures.out in
    subst (λ (q : List (Option ℕ)). KeepsBoard (record here { out = set b.out.items c.args.item (Some c.args.who) }) q) (sym left) (kept-out here b.queue c.self.invariant c.args.who c.args.item within due)
