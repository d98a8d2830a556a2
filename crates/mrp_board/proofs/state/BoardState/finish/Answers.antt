use Rattle.std.proofs.Common.{◌≡◌, ◌∙◌, ◌&&◌, ℕ, true, not, sym, ap, rules}
use Rattle.std.specs.Prelude.{is_some}
use Rattle.mrp_item.specs.Places.{ItemOf}
use Rattle.mrp_board.specs.BoardState.{has_stored, is_worker, worker_of}
use Rattle.mrp_board.proofs.Replies.{IsHeld, held-out}
use Rattle.mrp_board.proofs.state.BoardState.finish.Goals as goal

pub store-requires-clause-out : goal.store-requires-clause-out
store-requires-clause-out c =
    let now = c.args.self.now in
    let o = c.args.outcome.now in
    let yes : c.is_held.result ≡ true = search rules in
    let held : IsHeld now c.args.who o true = ap (λ (i : ℕ). is_worker c.args.who (worker_of now i) && not (has_stored now i)) (sym c.item.ensures) ∙ sym c.is_held.ensures ∙ yes in
    ap (λ (x : ItemOf). is_some (worker_of now x.item)) c.in_ok-outcome.ensures ∙ (held-out now c.args.who o held).0

pub store-requires-clause-new : goal.store-requires-clause-new
store-requires-clause-new c =
    let now = c.args.self.now in
    let o = c.args.outcome.now in
    let yes : c.is_held.result ≡ true = search rules in
    let held : IsHeld now c.args.who o true = ap (λ (i : ℕ). is_worker c.args.who (worker_of now i) && not (has_stored now i)) (sym c.item.ensures) ∙ sym c.is_held.ensures ∙ yes in
    ap (λ (x : ItemOf). has_stored now x.item) c.in_ok-outcome.ensures ∙ (held-out now c.args.who o held).1
