use Rattle.std.proofs.Common.{◌≡◌, ◌≢◌, ◌∙◌, ◌++◌, ◌∷◌, [], None, ap, subst, sym}
use Rattle.mrp_turn.specs.Log.{entry}
use Rattle.mrp_board.specs.declared.reply.BoardReply.{BoardReply}
use Rattle.mrp_board.specs.Board.{BoardLog, board_reply}
use Rattle.mrp_board.specs.BoardState.{board_reply_in}
use Rattle.mrp_board.specs.Object.{Answers}
use Rattle.mrp_engine.specs.event_core.Board.{RunLog}
use Rattle.mrp_engine.specs.event_core.Kept.{KeepsLog}
use Rattle.mrp_engine.proofs.lemmas.event_core.CoreSteps.{on-err}
use Rattle.mrp_engine.proofs.lemmas.event_core.RunBoards.{log-more, log-reached, log-reply, not-waiting, told-later}
use Rattle.mrp_engine.proofs.event_core.board.RunBoard.make.Goals as goal

pub returns-in_err-try_reserve-clause-memory : goal.returns-in_err-try_reserve-clause-memory
returns-in_err-try_reserve-clause-memory c =
    let now = c.args.self.now in
    on-err (board_reply now.inputs now.log c.args.worker c.args.call ≢ None) c.from_residual.result
    (not-waiting c.is_waiting.result (board_reply now.inputs now.log c.args.worker c.args.call) c.if-is_waiting.false (c.is_waiting.ensures c.args.worker))

pub apply-requires-clause-state : goal.apply-requires-clause-state
apply-requires-clause-state c =
    let i = c.self.inside in
    log-reached i.board i.state i.log.items c.self.invariant

pub invariant_of-self-in-Ok : goal.invariant_of-self-in-Ok
invariant_of-self-in-Ok c =
    let i = c.self.inside in
    let told : Answers i.board i.state c.args.worker c.args.call c.in-Ok.reply c.apply.new.state × (c.in-Ok.copy ≡ c.in-Ok.reply) = c.in-Ok.ensures in
    let log : c.push_reserved.new.self.items ≡ i.log.items ++ entry c.args.worker c.args.call c.in-Ok.reply ∷ [] =
    c.push_reserved.ensures.items
    ∙ ap (λ (l : BoardLog). l ++ entry c.args.worker c.args.call c.in-Ok.copy ∷ []) c.try_reserve.ensures.items
    ∙ ap (λ (r : BoardReply). i.log.items ++ entry c.args.worker c.args.call r ∷ []) told.1 in
    subst (λ (l : BoardLog). KeepsLog i.board c.apply.new.state l) (sym log)
    (log-more i.board i.state c.apply.new.state i.log.items c.args.worker c.args.call c.in-Ok.reply c.self.invariant c.requires.seat told.0.fits told.0.reply told.0.left)

pub unreachable-requires : goal.unreachable-requires
unreachable-requires c =
    let i = c.self.inside in
    let now = c.args.self.now in
    let none : board_reply_in i.state c.args.worker c.args.call ≡ None = told-later i.state c.args.worker c.args.call c.in-Err-NotYet.field-0 c.in-Err-NotYet.field-0-is c.in-Err-NotYet.ensures.1 in
    not-waiting c.is_waiting.result (board_reply now.inputs now.log c.args.worker c.args.call) c.if-is_waiting.false (c.is_waiting.ensures c.args.worker)
    (ap (λ (r : RunLog). board_reply r.inputs r.log c.args.worker c.args.call) (sym c.self.view_is) ∙ log-reply i.board i.state i.log.items c.args.worker c.args.call c.self.invariant ∙ none)

pub returns-in-Ok-clause-reply : goal.returns-in-Ok-clause-reply
returns-in-Ok-clause-reply c =
    let i = c.self.inside in
    let told : Answers i.board i.state c.args.worker c.args.call c.in-Ok.reply c.apply.new.state × (c.in-Ok.copy ≡ c.in-Ok.reply) = c.in-Ok.ensures in
    sym (
    ap (λ (r : RunLog). board_reply r.inputs r.log c.args.worker c.args.call) (sym c.self.view_is)
    ∙ log-reply i.board i.state i.log.items c.args.worker c.args.call c.self.invariant
    ∙ told.0.reply
    )
