use Rattle.mrp_board.proofs.HandsOn.{hands-on}
use Rattle.mrp_board.proofs.laws.boards_hand_on.Goals as goal

pub returns : goal.returns
returns c = hands-on
