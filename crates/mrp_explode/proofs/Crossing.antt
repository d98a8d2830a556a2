-- A worker may go to another thread.
use Rattle.std.proofs.Common.{rules}
use denote.Param.Send.{IsSend}
use types.Keyed.{entry}
use Rattle.mrp_turn.specs.contracts.seat.Seat as seat
use Rattle.mrp_board.specs.contracts.board.Board as board
use Rattle.mrp_board.specs.contracts.state.BoardState as state
use Rattle.mrp_board.specs.contracts.call.BoardCall as call
use Rattle.mrp_board.specs.contracts.reply.BoardReply as reply
use Rattle.mrp_board.specs.contracts.refused.BoardRefused as refused
use Rattle.mrp_board.specs.contracts.board.BoardObject.TheImpl as object

pub worker-send : IsSend (seat.the_row board.the_row state.the_row call.the_row reply.the_row refused.the_row object.ghosts)
unfolding entry
worker-send = search rules
