use Rattle.std.proofs.Common.{sym, subst}
use Rattle.mrp_item.specs.Inputs.{Inputs}
use Rattle.mrp_board.specs.Board.{FitsInputs}
use Rattle.mrp_board.proofs.LegalLogs.{reached-inputs}
use Rattle.mrp_board.proofs.Replies.{answered}
use Rattle.mrp_board.proofs.board.BoardObject.apply.Goals as goal

pub apply-requires : goal.apply-requires
apply-requires c = subst (λ (s : Inputs). FitsInputs s c.args.call.now) (sym (reached-inputs c.args.self.now c.args.state.now c.requires.state)) c.requires.call

pub returns : goal.returns
returns c = answered c.args.self.now c.args.state.now c.args.who c.args.call.now c.apply.result c.apply.new.self c.requires.who c.requires.call c.apply.ensures
