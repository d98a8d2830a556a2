use Rattle.mrp_board.proofs.Ends.{ends-finished, ends-orderly}
use Rattle.mrp_board.proofs.laws.boards_come_to_an_end.Goals as goal

pub returns : goal.returns
returns c = record { orderly = ends-orderly; finished = ends-finished }
