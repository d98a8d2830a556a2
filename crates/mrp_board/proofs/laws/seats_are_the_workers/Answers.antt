use Rattle.mrp_board.proofs.SeatWorkers.{seats-complete, seats-orderly}
use Rattle.mrp_board.proofs.laws.seats_are_the_workers.Goals as goal

pub returns : goal.returns
returns c = record { orderly = seats-orderly; complete = seats-complete }
