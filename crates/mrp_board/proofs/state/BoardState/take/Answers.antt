use Rattle.std.proofs.Common.{sym, arith}
use Rattle.mrp_item.specs.Inputs.{count}
use Rattle.mrp_board.specs.BoardState.{can_go_out}
use Rattle.mrp_board.proofs.Tests.{found-in}
use Rattle.mrp_board.proofs.state.BoardState.take.Goals as goal

pub parents_of-requires : goal.parents_of-requires
parents_of-requires c =
    let now = c.args.self.now in
    let found = found-in (can_go_out now) 0 (count now.inputs) c.in-Some.item (sym c.in-Some.ensures) in
    omega (arith, found.1)
