use Rattle.mrp_board.proofs.ComeAgain.{come-again}
use Rattle.mrp_board.proofs.laws.workers_come_again.Goals as goal

pub returns : goal.returns
returns c = come-again
