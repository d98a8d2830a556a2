use Rattle.std.proofs.Common.{◌≡◌, ◌∙◌, ◌↔◌, IsTrue, None, Option, ap, subst, sym}
use Rattle.mrp_board.specs.declared.call.BoardCall.{BoardCall}
use Rattle.mrp_board.specs.declared.call.BoardCall.TheVariants as call
use Rattle.mrp_board.specs.declared.reply.BoardReply.{BoardReply}
use Rattle.mrp_board.specs.Board.{board_reply}
use Rattle.mrp_board.specs.BoardState.{board_reply_in}
use Rattle.mrp_engine.specs.event_core.Board.{RunLog}
use Rattle.mrp_engine.proofs.lemmas.event_core.RunBoards.{log-reply}
use Rattle.mrp_engine.proofs.event_core.board.RunBoard.is_waiting.Goals as goal

pub returns-in-Take : goal.returns-in-Take
returns-in-Take c worker =
    let i = c.self.inside in
    let now = c.args.self.now in
    let same : board_reply now.inputs now.log worker c.args.call.now ≡ board_reply_in i.state worker call.Take =
    ap (λ (r : RunLog). board_reply r.inputs r.log worker c.args.call.now) (sym c.self.view_is)
    ∙ ap (λ (x : BoardCall). board_reply i.board i.log.items worker x) c.in-Take.is
    ∙ log-reply i.board i.state i.log.items worker call.Take c.self.invariant in
    subst (λ (o : Option BoardReply). IsTrue c.is_waiting.result ↔ (o ≡ None)) (sym same) (c.is_waiting.ensures worker)
